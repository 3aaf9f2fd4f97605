-- Refusals that are handed on.
use Rattle.std.proofs.Common.{◌≡◌, Result, Ok, Err, IfErr, IsErrAnd, ap, inl, inr, sym, subst}
use Rattle.std.specs.Prelude.{◌^◌, min}
use Rattle.life_base.specs.Refusal.{OrMemory, fault_of}
use Rattle.life_base.specs.declared.fault.Fault.{Fault}
use Rattle.life_base.specs.declared.kind.Kind.TheVariants.{Full}
use Rattle.life_quad.specs.Store.{Nodes}
use Rattle.life_pattern.specs.Store.{universe_in}
use Rattle.life_pattern.specs.declared.pattern.Pattern.{Pattern}
use Rattle.life_forms.specs.Needed.{HasLargerForm, RefusesTurning}
use Rattle.life_forms.specs.Turns.{Turn, image}

-- what follows from the refusal of a call follows from the same one of a call that hands it on
pub handed-on : {T U E P : Type 0} {x y : E} (r : Result U E) → IsErrAnd r (λ z. z ≡ x) → (◌≡◌ {A = Result T E} (Err x) (Err y) → P) → r ≡ Err y → P
handed-on (Ok a) bad needed e = absurd bad
handed-on {x = x} {y = y} (Err z) is needed e = let same : x ≡ y = cc in needed (ap Err same)

-- a form that is refused refuses the turned one
pub refused-form : {T : Type 0} {x : Fault} (store : Nodes) (pattern : Pattern) (turn : Turn) (r : Result T Fault) → IsErrAnd r (λ z. z ≡ x)
    → OrMemory x ((x ≡ fault_of Full) × HasLargerForm (min (2 ^ 21) store.limit) (image turn (universe_in store pattern)))
    → IfErr r (RefusesTurning store pattern)
refused-form store pattern turn (Ok a) bad why = absurd bad
refused-form store pattern turn (Err z) is why =
    subst (RefusesTurning store pattern) (sym is) (elim why [ inl memory ↦ inl memory | inr large ↦ inr (large.0, (turn, large.1)) ])
