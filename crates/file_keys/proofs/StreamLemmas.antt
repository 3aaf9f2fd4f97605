-- The patterns of a stream, and what is held of them.
use Rattle.std.proofs.Common.{◌≡◌, ◌⊎◌, ◌↔◌, ◌∙◌, ◌+◌, ◌-◌, ◌<◌, ◌≤◌, ◌^◌, ◌==◌, ℕ, zero, suc, Bool, true, false, nat_lt, min, List, [], ◌∷◌, ◌++◌, length, take, drop, map, slice_index, get_or, Option, Some, None, Result, Ok, Err, IsTrue, not, is_err, OnOk, refl, sym, ap, ap₂, subst, subst₂, arith, inl, inr, append_assoc, append-nil, length-append, length-take, take_all, take-take, lt-ltb, le-ltb, ltb-false, ltb-true}
use Rattle.file_hints.specs.declared.foreign.Foreign.{Foreign}
use Rattle.file_hints.specs.Recognition.{foreign_of}
use Rattle.file_hints.specs.Refused.{foreign_at_start, foreign_on}
use Rattle.file_hints.specs.declared.warnings.Warning.{Warning}
use Rattle.life_base.specs.DeviceRuns.{SourceRun}
use Rattle.life_base.specs.Inputs.{CameBeyond}
use Rattle.life_base.specs.Refusal.{fault_of}
use Rattle.life_base.specs.declared.fault.Fault.{Fault}
use Rattle.life_base.specs.declared.kind.Kind.{Kind}
use Rattle.life_base.specs.declared.kind.Kind.TheVariants as kinds
use Rattle.pattern_sources.specs.Sources.{by_input, by_length}
use Rattle.command_line.specs.declared.plans.KeyForm.{KeyForm}
use Rattle.file_keys.specs.KeyRuns.{IsOutcomeOf, IsReportedAs, outcome_status, output_line, report_line, TellsOn, WritesFiles}
use Rattle.file_keys.specs.Stream.{HoldsPiece, IsOutcomeOfPiece, LacksNul, warning_line, warning_with, WritesEntry}
use Rattle.file_keys.specs.declared.keys.outcome.Outcome.{Outcome}
use Rattle.file_keys.specs.declared.keys.outcome.Outcome.TheVariants.{Key, Refused, Unopened}
use Rattle.file_keys.specs.declared.keys.outputs.Outputs.{Outputs}
use Rattle.file_keys.specs.declared.keys.refusal.FileRefusal.{FileRefusal}
use Rattle.file_keys.proofs.KeyRunLemmas.{tells_then}
use Rattle.file_keys.specs.declared.stream.held_piece.HeldPiece.{HeldPiece}

-- ---- lists of bytes

-- the first bytes of two lists, one after the other
take_both : (n : ℕ) (xs ys : List ℕ) → take n (xs ++ ys) ≡ take n xs ++ take (n - length (take n xs)) ys
take_both zero xs ys = refl
take_both (suc n) [] ys = ap (λ k. take k ys) (all n)
  where
    all : (n : ℕ) → suc n ≡ suc n - 0
    all n = omega arith
take_both (suc n) (x ∷ xs) ys =
    ap (λ l. x ∷ l) (take_both n xs ys ∙ ap (λ k. take n xs ++ take k ys) (at n (length (take n xs))))
  where
    at : (n k : ℕ) → n - k ≡ suc n - suc k
    at n k = omega arith

take_none : (n : ℕ) (xs : List ℕ) → xs ≡ [] → take n xs ≡ []
take_none zero xs none = refl
take_none (suc n) [] none = refl
take_none (suc n) (x ∷ xs) none = absurd cc

nothing : (xs : List ℕ) → length xs ≡ 0 → xs ≡ []
nothing [] none = refl
nothing (x ∷ xs) none = absurd (omega (arith, none))

pub lacks_both : (xs ys : List ℕ) → LacksNul xs → LacksNul ys → LacksNul (xs ++ ys)
lacks_both [] ys p q = q
lacks_both (x ∷ xs) ys p q = (p.0, lacks_both xs ys p.1 q)

pub not_is : (b : Bool) → IsTrue (not b) → b ≡ false
not_is true bad = absurd cc
not_is false is = refl

pub is_not : (b : Bool) → (b ≡ true → ⊥) → IsTrue (not b)
is_not true other = absurd (other refl)
is_not false other = refl

pub of_ok : {A E : Type 0} (P : Type 0) (r : Result A E) → is_err r ≡ false → OnOk r P → P
of_ok P (Ok a) is p = p
of_ok P (Err e) is p = absurd cc

-- ---- what is held of a piece

-- no more bytes came
pub holds_same : (held : HeldPiece) (piece more : List ℕ) → length more ≡ 0 → HoldsPiece held piece → HoldsPiece held (piece ++ more)
holds_same held piece more none holds =
    subst (HoldsPiece held) (sym (append-nil piece) ∙ ap (λ l. piece ++ l) (sym (nothing more none))) holds

-- more bytes came, and memory was refused
pub holds_lacking : (old new : HeldPiece) (piece more : List ℕ) → LacksNul more → 0 < length more → new.lacks_memory ≡ true → HoldsPiece old piece
    → HoldsPiece new (piece ++ more)
holds_lacking old new piece more none some lacks holds = record {
  no_end = lacks_both piece more holds.no_end none;
  bytes = λ has. absurd (both has);
  long = λ has. absurd (both has);
  some = λ is. subst (λ n. 0 < n) (sym (length-append piece more)) (omega (arith, some));
}
  where
    both : new.lacks_memory ≡ false → ⊥
    both has = let bad : true ≡ false = sym lacks ∙ has in absurd cc

-- more bytes came, and those are held that there is space for
module _ (old new : HeldPiece) (piece more : List ℕ) (space : ℕ) (none : LacksNul more) (some : 0 < length more) (had : old.lacks_memory ≡ false)
    (has : new.lacks_memory ≡ false) (holds : HoldsPiece old piece) (is_space : space ≡ 2 ^ 30 - length old.bytes.items) where
  space_is : space ≡ 2 ^ 30 - min (2 ^ 30) (length piece)
  space_is = is_space ∙ ap (λ l. 2 ^ 30 - length l) (holds.bytes had) ∙ ap (λ n. 2 ^ 30 - n) (length-take (2 ^ 30) piece)

  first_bytes : new.bytes.items ≡ old.bytes.items ++ take space more → new.bytes.items ≡ take (2 ^ 30) (piece ++ more)
  first_bytes is =
      is ∙ ap (λ l. l ++ take space more) (holds.bytes had)
      ∙ ap (λ k. take (2 ^ 30) piece ++ take k more) (is_space ∙ ap (λ l. 2 ^ 30 - length l) (holds.bytes had))
      ∙ sym (take_both (2 ^ 30) piece more)

  holds_more : new.bytes.items ≡ old.bytes.items ++ take space more → new.is_long ≡ nat_lt (2 ^ 30) (length (piece ++ more))
      → HoldsPiece new (piece ++ more)
  holds_more is long = record {
    no_end = lacks_both piece more holds.no_end none;
    bytes = λ whole. first_bytes is;
    long = λ whole. long;
    some = λ lacks. absurd (let bad : true ≡ false = sym lacks ∙ has in cc);
  }

  long_at : (n m r : ℕ) → r ≡ 2 ^ 30 - min (2 ^ 30) n → r < m → 2 ^ 30 < n + m
  long_at n m r is lt = omega (arith, is, lt)

  short_at : (n m r : ℕ) → r ≡ 2 ^ 30 - min (2 ^ 30) n → m ≤ r → 0 < m → (n + m ≤ 2 ^ 30) × (n ≤ 2 ^ 30)
  short_at n m r is le lt = (omega (arith, is, le, lt), omega (arith, is, le, lt))

  pub holds_long : space < length more → new.bytes.items ≡ old.bytes.items ++ take space more → new.is_long ≡ true → HoldsPiece new (piece ++ more)
  holds_long lt is long =
      let beyond = long_at (length piece) (length more) space space_is lt in
      holds_more is (long ∙ sym (lt-ltb (2 ^ 30) (length (piece ++ more)) (subst (λ n. 2 ^ 30 < n) (sym (length-append piece more)) beyond)))

  pub holds_all : length more ≤ space → new.bytes.items ≡ old.bytes.items ++ more → new.is_long ≡ old.is_long → HoldsPiece new (piece ++ more)
  holds_all le is same =
      let within = short_at (length piece) (length more) space space_is le some in
      holds_more (is ∙ ap (λ l. old.bytes.items ++ l) (sym (take_all space more le)))
      (same ∙ holds.long had ∙ le-ltb (2 ^ 30) (length piece) within.1
      ∙ sym (le-ltb (2 ^ 30) (length (piece ++ more)) (subst (λ n. n ≤ 2 ^ 30) (sym (length-append piece more)) within.0)))

-- a piece of which no byte is held has none
pub holds_none : (held : HeldPiece) (piece : List ℕ) → HoldsPiece held piece → held.lacks_memory ≡ false → length held.bytes.items ≡ 0 → piece ≡ []
holds_none held piece holds has none =
    let same = sym (length-take (2 ^ 30) piece) ∙ ap length (sym (holds.bytes has)) ∙ none in nothing piece (at (length piece) same)
  where
    at : (n : ℕ) → min (2 ^ 30) n ≡ 0 → n ≡ 0
    at n is = omega (arith, is)

-- and of one that has none, none is
pub none_held : (held : HeldPiece) (piece : List ℕ) → HoldsPiece held piece → piece ≡ [] → (held.lacks_memory ≡ true → ⊥) × (held.lacks_memory ≡ false
    → length held.bytes.items ≡ 0)
none_held held piece holds is = (
  λ lacks. let some = subst (λ (l : List ℕ). 0 < length l) is (holds.some lacks) in absurd (omega (arith, some)),
  λ has. ap length (holds.bytes has ∙ take_none (2 ^ 30) piece is),
)

pub of_none : (held : HeldPiece) (piece : List ℕ) → HoldsPiece held piece → piece ≡ [] → length held.bytes.items ≡ 0
of_none held piece holds is = at held.lacks_memory refl
  where
    at : (b : Bool) → held.lacks_memory ≡ b → length held.bytes.items ≡ 0
    at true lacks = absurd ((none_held held piece holds is).0 lacks)
    at false has = (none_held held piece holds is).1 has

-- a piece that isn't long is held whole
pub holds_whole : (held : HeldPiece) (piece : List ℕ) → HoldsPiece held piece → held.lacks_memory ≡ false → held.is_long ≡ false → held.bytes.items ≡ piece
holds_whole held piece holds has short =
    holds.bytes has ∙ take_all (2 ^ 30) piece (ltb-false (2 ^ 30) (length piece) (sym (holds.long has) ∙ short))

-- ---- what comes of a piece

-- the first bytes of a piece say what it is
same_start : (piece : List ℕ) → foreign_at_start false (take (2 ^ 30) piece) ≡ foreign_at_start false piece
same_start piece = ap (foreign_of false) (take-take 512 (2 ^ 30) piece (omega arith))

-- a piece that is too long
pub too_long_piece : (form : KeyForm) (held : HeldPiece) (piece : List ℕ) (refusal : FileRefusal) → HoldsPiece held piece → held.lacks_memory ≡ false
    → held.is_long ≡ true → refusal.fault ≡ fault_of kinds.InputTooLong → refusal.foreign ≡ foreign_at_start false held.bytes.items
    → IsOutcomeOfPiece form piece (Refused refusal)
too_long_piece form held piece refusal holds has long is foreign = record {
  left = Some [];
  comes = record {
    comes = (
      by_input (by_length is (record { bytes = piece; consumed = sym (append-nil piece); long = beyond (sym (holds.long has) ∙ long) })),
      foreign ∙ ap (foreign_at_start false) (holds.bytes has) ∙ same_start piece
          ∙ sym (ap (λ (f : Fault). foreign_on f.kind (foreign_at_start false piece)) is),
    );
    read_fault = (λ read. let bad : kinds.InputTooLong ≡ kinds.ReadFault = sym (ap (λ (f : Fault). f.kind) is) ∙ read in absurd cc, λ failed. absurd cc);
  };
}
  where
    beyond : nat_lt (2 ^ 30) (length piece) ≡ true → 2 ^ 30 < length piece
    beyond is = ltb-true (2 ^ 30) (length piece) is

-- a piece that is held whole
pub whole_piece : (form : KeyForm) (held : HeldPiece) (piece : List ℕ) (foreign : Option Foreign) (source : SourceRun) (outcome : Outcome)
    → HoldsPiece held piece → held.lacks_memory ≡ false → held.is_long ≡ false → foreign ≡ foreign_at_start false held.bytes.items
    → source.before ≡ Some held.bytes.items → source.failures ≡ 0 → IsOutcomeOf form foreign source outcome → IsOutcomeOfPiece form piece outcome
whole_piece form held piece foreign source outcome holds has short is before works comes =
    let same = holds_whole held piece holds has short in
    let run : (b : Option (List ℕ)) → (n : ℕ) → SourceRun = λ b n. record { before = b; after = source.after; failures = n } in record {
      left = source.after;
      comes = subst (λ l. IsOutcomeOf form (foreign_at_start false l) (run (Some l) 0) outcome) same
          (subst₂ (λ b n. IsOutcomeOf form (foreign_at_start false held.bytes.items) (run b n) outcome) before works
          (subst (λ f. IsOutcomeOf form f source outcome) is comes));
    }

pub whole_warning : (held : HeldPiece) (piece : List ℕ) (outcome : Outcome) → HoldsPiece held piece → held.lacks_memory ≡ false
    → held.is_long ≡ false → warning_with outcome held.bytes.items ≡ warning_with outcome piece
whole_warning held piece outcome holds has short = ap (warning_with outcome) (holds_whole held piece holds has short)

-- ---- what is written

module _ {W E : Type 0} (held : W → Option (List ℕ)) (contents : E → Option (List ℕ)) (failures : E → ℕ) (stalled : E → Bool) where
  -- a warning, and then what the style has of a file
  pub entry_written : (u v : W) (x y z : E) (a b : Outputs) (t : Bool) (result : Result (Unit {0}) Kind) (name : List ℕ) (came : Outcome)
      (warning : Option Warning) → TellsOn contents failures stalled a.tells t x y (warning_line name warning)
      → (reported : Outcome) × IsReportedAs came reported × WritesFiles held contents failures stalled u v y z (record a { tells = t }) b result
      (output_line a.style name reported) (report_line a.style name reported) (outcome_status reported)
      → WritesEntry held contents failures stalled u v x z a b result name came warning
  entry_written u v x y z a b t result name came warning warned (reported, how, writes) = record {
    reported = reported;
    how = how;
    writes = record {
      written = writes.written;
      reported = tells_then contents failures stalled a.tells t b.tells x y z (warning_line name warning)
          (report_line a.style name reported) warned writes.reported;
      status = writes.status;
    };
  }
