-- What the reader and the store of a stream make of the bytes that came.
use Rattle.std.proofs.Common.{◌≡◌, ℕ, ◌++◌, ◌∙◌, ap, refl, sym, subst, List, length, ◌⊎◌, inl, inr, Option, Some}
use Rattle.std.specs.Global.{Vec}
use Rattle.life_base.specs.Refusal.{fault_of}
use Rattle.life_base.specs.declared.cell.TheConstants.{MAX_LEVEL}
use Rattle.life_base.specs.declared.fault.Fault.{Fault}
use Rattle.life_base.specs.declared.kind.Kind.TheVariants.{Full}
use Rattle.life_quad.specs.Store.{Nodes, stored_squares}
use Rattle.life_reader.specs.Feeding.{RefusesPrefix}
use Rattle.life_pattern.specs.Store.{IsShortageOf}
use Rattle.file_hints.specs.Damage.{warning_of}
use Rattle.file_hints.specs.declared.warnings.Warning.{Warning}
use Rattle.library_calls.specs.Texts.{Fits, SomeToRead, squares_of_limit}
use Rattle.library_calls.specs.Outputs.{Piecewise, IsOutputText, IsTooLowForPrefix, RefusesTextOf, RefusesPiece}
use Rattle.library_calls.specs.Streams.{IsFed, SessionHasText, SessionHasWarning, HasFault, by_piece, by_text, StaysEnded, Feeds, Finishes}
use Rattle.library_calls.specs.Streams as streams
use Rattle.library_calls.specs.declared.texts.Output.{Output}
use Rattle.library_calls.specs.declared.session.Session.{Session}
use Rattle.library_calls.specs.declared.session.Session.TheVariants.{Reading, Written, Refused}
use Rattle.library_calls.proofs.Answering.{wanted}

-- why a piece is refused
pub piece-fault : (limit : ℕ) (bytes : List ℕ) (store : Nodes) (fault : Fault) → store.limit ≡ squares_of_limit limit
    → IsShortageOf store fault ⊎ RefusesPrefix MAX_LEVEL bytes fault
    → (fault ≡ fault_of Full → length (stored_squares store) ≡ store.limit → IsTooLowForPrefix bytes store.limit) → RefusesPiece limit bytes fault
piece-fault limit bytes store fault is (inl want) low = inr (wanted (IsTooLowForPrefix bytes) limit store fault is want low)
piece-fault limit bytes store fault is (inr prefix) low = inl prefix

-- ---- sessions

-- a session that is read has no text and no fault
none-yet : (session : Session) (feeding : Piecewise) (new : Option Session) → session ≡ Reading feeding → StaysEnded (Some session) new
none-yet session feeding new is =
    record {
      text = λ text has. absurd (subst (SessionHasText text) is has);
      warning = λ warning has. absurd (subst (SessionHasWarning warning) is has);
      fault = λ fault has. absurd (subst (HasFault fault) is has);
    }

-- a piece that is taken
pub feeds-piece : (piece : List ℕ) (session : Session) (feeding next : Piecewise) → session ≡ Reading feeding
    → next ≡ record { output = feeding.output; space = feeding.space; bytes = feeding.bytes ++ piece }
    → ((fault : Fault) → ¬ RefusesPrefix MAX_LEVEL (feeding.bytes ++ piece) fault) → Feeds piece (Some session) (Some (Reading next))
feeds-piece piece session feeding next is after prefix = record {
  takes = λ output limit bytes fed. let f = subst (IsFed output limit bytes) is fed in by_piece (
    ap (λ (v : Piecewise). v.output) after ∙ f.0,
    ap (λ (v : Piecewise). v.space) after ∙ f.1,
    ap (λ (v : Piecewise). v.bytes) after ∙ ap (λ b. b ++ piece) f.2,
  )
      (subst (λ b. (fault : Fault) → ¬ RefusesPrefix MAX_LEVEL (b ++ piece) fault) f.2 prefix);
  stays = none-yet session feeding _ is;
}

-- one that is refused
pub feeds-fault : (piece : List ℕ) (session : Session) (feeding : Piecewise) (fault : Fault) → session ≡ Reading feeding
    → ((limit : ℕ) → feeding.space ≡ squares_of_limit limit → RefusesPiece limit (feeding.bytes ++ piece) fault)
    → Feeds piece (Some session) (Some (Refused fault))
feeds-fault piece session feeding fault is why = record {
  takes = λ output limit bytes fed. let f = subst (IsFed output limit bytes) is fed in
      streams.by_fault fault refl (subst (λ b. RefusesPiece limit (b ++ piece) fault) f.2 (why limit f.1));
  stays = none-yet session feeding _ is;
}

-- the text of the end
pub ends-text : (session : Session) (feeding : Piecewise) (text : Vec ℕ) (warning : Option Warning) → session ≡ Reading feeding
    → warning ≡ warning_of feeding.bytes
    → ((limit : ℕ) → feeding.space ≡ squares_of_limit limit → IsOutputText feeding.output limit feeding.bytes text.items)
    → ((limit : ℕ) → feeding.space ≡ squares_of_limit limit → Fits (SomeToRead feeding.bytes) limit)
    → Finishes (Some session) (Some (Written (record { text = text; warning = warning })))
ends-text session feeding text warning is warns good fits = record {
  ends = λ output limit bytes fed. let f = subst (IsFed output limit bytes) is fed in
      by_text text.items refl (subst (λ b. IsOutputText output limit b text.items) f.2
      (subst (λ k. IsOutputText k limit feeding.bytes text.items) f.0 (good limit f.1)))
      (subst (λ b. Fits (SomeToRead b) limit) f.2 (fits limit f.1));
  warns = λ output limit bytes fed. warns ∙ ap warning_of (subst (IsFed output limit bytes) is fed).2;
  stays = none-yet session feeding _ is;
}

-- its fault
pub ends-fault : (session : Session) (feeding : Piecewise) (fault : Fault) → session ≡ Reading feeding
    → ((limit : ℕ) → feeding.space ≡ squares_of_limit limit → RefusesTextOf feeding.output limit feeding.bytes fault)
    → Finishes (Some session) (Some (Refused fault))
ends-fault session feeding fault is why = record {
  ends = λ output limit bytes fed. let f = subst (IsFed output limit bytes) is fed in streams.by_fault fault refl
      (subst (λ b. RefusesTextOf output limit b fault) f.2 (subst (λ k. RefusesTextOf k limit feeding.bytes fault) f.0 (why limit f.1)));
  warns = λ output limit bytes fed. tt;
  stays = none-yet session feeding _ is;
}

-- a session that is not read any more was not fed
not-fed : (output : Output) (limit : ℕ) (bytes : List ℕ) (session : Session) → ((feeding : Piecewise) → session ≡ Reading feeding → ⊥)
    → ¬ IsFed output limit bytes session
not-fed output limit bytes (Reading feeding) ended fed = ended feeding refl
not-fed output limit bytes (Written finished) ended fed = fed
not-fed output limit bytes (Refused fault) ended fed = fed

-- it stays as it is
pub fed-ended : (piece : List ℕ) (session : Session) → ((feeding : Piecewise) → session ≡ Reading feeding → ⊥) → Feeds piece (Some session) (Some session)
fed-ended piece session ended = record {
  takes = λ output limit bytes fed. absurd (not-fed output limit bytes session ended fed);
  stays = record { text = λ text has. has; warning = λ warning has. has; fault = λ fault has. has };
}

pub ended-ended : (session : Session) → ((feeding : Piecewise) → session ≡ Reading feeding → ⊥) → Finishes (Some session) (Some session)
ended-ended session ended = record {
  ends = λ output limit bytes fed. absurd (not-fed output limit bytes session ended fed);
  warns = λ output limit bytes fed. absurd (not-fed output limit bytes session ended fed);
  stays = record { text = λ text has. has; warning = λ warning has. has; fault = λ fault has. has };
}

-- what a call makes of the session of an open stream, which it takes out and puts another one into the place of
pub through : (Makes : Option Session → Option Session → Type 0) (old new : Option Session) (before after : Session) → old ≡ Some before → Some after ≡ new
    → Makes (Some before) (Some after) → Makes old new
through Makes old new before after is becomes made = subst (λ v. Makes v new) (sym is) (subst (Makes (Some before)) becomes made)
