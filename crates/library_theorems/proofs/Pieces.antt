-- What a stream has of the pieces that were fed, and what its end tells of them.
use Rattle.std.proofs.Common.{◌≡◌, ℕ, ◌+◌, ◌*◌, ◌<◌, ◌≤◌, ◌++◌, ◌⊎◌, inl, inr, List, [], take, drop, length, length-append, ◌∙◌, ap, sym, subst, arith, Option, Some, None, IfSome}
use Rattle.std.specs.Global.{Vec}
use Rattle.life_base.specs.Kinds.{kind_number}
use Rattle.life_base.specs.declared.fault.Fault.{Fault}
use Rattle.life_base.specs.declared.kind.Kind.TheVariants.{Memory}
use Rattle.life_reader.specs.Laws.{FaultsStay}
use Rattle.theorems.specs.Joined.{all_bytes}
use Rattle.theorems.proofs.PieceLaw.{joined_all, joined_split}
use Rattle.theorems.proofs.RefusalLaw.{refuses_agree}
use Rattle.library_calls.specs.Outputs.{IsOutputText, IsTooLowForPrefix, RefusesTextOf, RefusesPiece}
use Rattle.library_calls.specs.Streams.{IsOpenStream, IsFed, HasFault, OpensStream, TakesPiece, by_piece, Ends, TellsEnd}
use Rattle.library_calls.specs.Streams as streams
use Rattle.library_calls.specs.declared.reported.Reported.{Reported}
use Rattle.library_calls.specs.Reported.{Returns, by_text, by_fault}
use Rattle.library_calls.specs.declared.texts.Output.{Output}
use Rattle.library_calls.specs.declared.session.Session.{Session}
use Rattle.library_calls.specs.declared.session.Session.TheVariants.{Reading, Written, Refused}
use Rattle.library_theorems.specs.Answered.{IsUnreadWithin, squares_for}
use Rattle.library_theorems.specs.Ending.{IsEndFault}
use Rattle.library_theorems.proofs.Reworded.{want_below}

-- the pieces so far were fed, or one of them was refused
pub data Took (output : Output) (limit : ℕ) (pieces : List (Vec ℕ)) (n : ℕ) (session : Option Session) : Type 0 where
  fed : IsOpenStream (IsFed output limit (all_bytes (take n pieces))) session → Took output limit pieces n session
  refused : (k : ℕ) (fault : Fault) → IsOpenStream (HasFault fault) session → RefusesPiece limit (all_bytes (take k pieces)) fault
      → Took output limit pieces n session

-- one piece more
pub took_more : (output : Output) (limit : ℕ) (pieces : List (Vec ℕ)) (n : ℕ) (piece : List ℕ) (old new : Option Session)
    → all_bytes (take n pieces) ++ piece ≡ all_bytes (take (n + 1) pieces)
    → (IsOpenStream (IsFed output limit (all_bytes (take n pieces))) old → IsOpenStream (TakesPiece output limit (all_bytes (take n pieces) ++ piece)) new)
    → ((fault : Fault) → IsOpenStream (HasFault fault) old → IsOpenStream (HasFault fault) new)
    → Took output limit pieces n old → Took output limit pieces (n + 1) new
took_more output limit pieces n piece old new more takes stays (fed whole) = by new (takes whole)
  where
    by : (it : Option Session) → IsOpenStream (TakesPiece output limit (all_bytes (take n pieces) ++ piece)) it → Took output limit pieces (n + 1) it
    by None h = absurd h
    by (Some session) (by_piece is prefix) = fed (subst (λ (bytes : List ℕ). IsFed output limit bytes session) more is)
    by (Some session) (streams.by_fault fault has why) =
        refused (n + 1) fault has (subst (λ (bytes : List ℕ). RefusesPiece limit bytes fault) more why)
took_more output limit pieces n piece old new more takes stays (refused k fault has why) = refused k fault (stays fault has) why

-- the fault of the pieces so far is that of all
of_all : FaultsStay 62 → (limit : ℕ) (pieces : List (Vec ℕ)) (k : ℕ) (fault : Fault) → RefusesPiece limit (all_bytes (take k pieces)) fault
    → IsUnreadWithin limit (all_bytes pieces) fault
of_all stay limit pieces k fault (inl prefix) =
    let whole = refuses_agree (all_bytes (take k pieces) ++ all_bytes (drop k pieces)) fault
    (stay (all_bytes (take k pieces)) (all_bytes (drop k pieces)) fault prefix).refuses in
    subst (λ (bytes : List ℕ). IsUnreadWithin limit bytes fault) (sym (joined_split pieces k)) (inl whole)
of_all stay limit pieces k fault (inr w) = inr (want_below (IsTooLowForPrefix (all_bytes (take k pieces))) (squares_for (all_bytes pieces)) limit fault
    (λ most low. below most low.1) w)
  where
    below : (most : ℕ) → most < squares_for (all_bytes (take k pieces)) → most < squares_for (all_bytes pieces)
    below most low =
        let both = length-append (all_bytes (take k pieces)) (all_bytes (drop k pieces)) in
        let all = ap (λ (bytes : List ℕ). length bytes) (joined_split pieces k) in
        omega (arith, low, both, all)

module _ (output : Output) (limit : ℕ) (bytes : List ℕ) (before after : List ℕ) (reported : Reported) where
  end_reported : (session : Session) → Ends output limit bytes session → TellsEnd before after reported session
      → Returns (IsOutputText output limit bytes) (IsEndFault output limit bytes) before after reported
  end_reported (Reading feeding) (streams.by_text text has good fits) tells = absurd has
  end_reported (Reading feeding) (streams.by_fault fault has why) tells = absurd has
  end_reported (Written written) (streams.by_text text has good fits) tells =
      by_text written.text.items (subst (IsOutputText output limit bytes) (sym has) good) tells.0 tells.1
  end_reported (Written written) (streams.by_fault fault has why) tells = absurd has
  end_reported (Refused it) (streams.by_text text has good fits) tells = absurd has
  end_reported (Refused it) (streams.by_fault fault has why) tells = by_fault it (inr (subst (RefusesTextOf output limit bytes) (sym has) why)) tells

  fault_reported : (session : Session) (fault : Fault) → HasFault fault session → IsUnreadWithin limit bytes fault → TellsEnd before after reported session
      → Returns (IsOutputText output limit bytes) (IsEndFault output limit bytes) before after reported
  fault_reported (Reading feeding) fault has why tells = absurd has
  fault_reported (Written written) fault has why tells = absurd has
  fault_reported (Refused it) fault has why tells = by_fault it (inl (subst (IsUnreadWithin limit bytes) (sym has) why)) tells

-- what the end tells
pub reported_at_end : FaultsStay 62
    → (output : Output) (limit : ℕ) (pieces : List (Vec ℕ)) (n : ℕ) (old new : Option Session) (before after : List ℕ) (reported : Reported)
    → length pieces ≤ n
    → (IsOpenStream (IsFed output limit (all_bytes pieces)) old → IsOpenStream (Ends output limit (all_bytes pieces)) new)
    → ((fault : Fault) → IsOpenStream (HasFault fault) old → IsOpenStream (HasFault fault) new) → IfSome new (TellsEnd before after reported)
    → Took output limit pieces n old
    → Returns (IsOutputText output limit (all_bytes pieces)) (IsEndFault output limit (all_bytes pieces)) before after reported
reported_at_end stay output limit pieces n old new before after reported all ends stays tells (fed whole) =
    by new (ends (subst (λ (bytes : List ℕ). IsOpenStream (IsFed output limit bytes) old) (joined_all pieces n all) whole)) tells
  where
    by : (it : Option Session) → IsOpenStream (Ends output limit (all_bytes pieces)) it → IfSome it (TellsEnd before after reported)
        → Returns (IsOutputText output limit (all_bytes pieces)) (IsEndFault output limit (all_bytes pieces)) before after reported
    by None h t = absurd h
    by (Some session) h t = end_reported output limit (all_bytes pieces) before after reported session h t
reported_at_end stay output limit pieces n old new before after reported all ends stays tells (refused k fault has why) = by new (stays fault has) tells
  where
    by : (it : Option Session) → IsOpenStream (HasFault fault) it → IfSome it (TellsEnd before after reported)
        → Returns (IsOutputText output limit (all_bytes pieces)) (IsEndFault output limit (all_bytes pieces)) before after reported
    by None h t = absurd h
    by (Some session) h t = fault_reported output limit (all_bytes pieces) before after reported session fault h (of_all stay limit pieces k fault why) t

-- ---- the call that opens

pub is_open : (output : Output) (limit status : ℕ) (session : Option Session) → OpensStream output limit status session → status ≡ 0
    → IsOpenStream (IsFed output limit []) session
is_open output limit status session (inl h) ok = h.1
is_open output limit status session (inr h) ok = let e : 0 ≡ 22 = sym ok ∙ h.0 in absurd (omega (arith, e))

pub status_is : (output : Output) (limit status : ℕ) (session : Option Session) → OpensStream output limit status session
    → (status ≡ 0) ⊎ (status ≡ kind_number Memory)
status_is output limit status session (inl h) = inl h.0
status_is output limit status session (inr h) = inr h.0
