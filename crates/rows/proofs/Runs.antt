-- A run more of those that may be given one after another.
use Rattle.std.proofs.Common.{◌≤◌, List, [], ◌∷◌, ◌++◌, append-nil, append_assoc, sym, subst}
use Rattle.life_base.specs.declared.cell.Run.{Run}
use Rattle.life_strip.specs.Given.{AreNext, IsNextRunStart, IsRunOnPlane}

pub next-snoc : (before runs : List Run) (run : Run) → AreNext before runs → 1 ≤ run.len → IsRunOnPlane run.x run.y run.len
    → IsNextRunStart (before ++ runs) run.x run.y → AreNext before (runs ++ run ∷ [])
next-snoc before [] run all some inside next = (some, inside, subst (λ z. IsNextRunStart z run.x run.y) (append-nil before) next, tt)
next-snoc before (first ∷ runs) run all some inside next = (
  all.0,
  all.1,
  all.2,
  next-snoc (before ++ first ∷ []) runs run all.3 some inside
      (subst (λ z. IsNextRunStart z run.x run.y) (sym (append_assoc before (first ∷ []) runs)) next),
)
