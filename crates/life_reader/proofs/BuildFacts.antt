-- The runs of a file's lines may be given to a builder one after another.
use Rattle.std.proofs.Common.{◌≡◌, ℕ, zero, suc, ◌-◌, List, [], ◌∷◌, ◌++◌, length, sym, subst, inl, inr, append_assoc, Some, slice_get}
use Rattle.life_base.specs.declared.cell.TheConstants.{MAX_LEVEL}
use Rattle.life_base.specs.declared.cell.Run.{Run}
use Rattle.life_base.specs.declared.rule.Rule.{Rule}
use Rattle.life_rle.specs.File.{HasRuns}
use Rattle.life_rle.specs.RunsLaw.{IsGoodRun, AreGoodRuns, StandsBefore, StandsBeforeAll, AreRunsInOrder}
use Rattle.life_rle.proofs.RunsLaws.{runs_are_cells}
use Rattle.life_strip.specs.Given.{AreNext, IsAfterRun, IsRunOnPlane}

-- ---- the runs of a file are good and in order

good-at : (rule : Rule) (before : List Run) (run : Run) (runs : List Run) → AreGoodRuns MAX_LEVEL rule (before ++ run ∷ runs) → IsGoodRun MAX_LEVEL rule run
good-at rule [] run runs g = g.0
good-at rule (first ∷ before) run runs g = good-at rule before run runs g.1

before-all : (first : Run) (before : List Run) (run : Run) (runs : List Run) → StandsBeforeAll first (before ++ run ∷ runs) → StandsBefore first run
before-all first [] run runs h = h.0
before-all first (one ∷ before) run runs h = before-all first before run runs h.1

behind-at : (before : List Run) (run : Run) (runs : List Run) → AreRunsInOrder (before ++ run ∷ runs) → (index : ℕ) (last : Run)
    → slice_get before index ≡ Some last → IsAfterRun last run.x run.y
behind-at [] run runs o index last e = cc
behind-at (first ∷ before) run runs o zero last e =
    let same : first ≡ last = cc in
    subst (λ (r : Run). IsAfterRun r run.x run.y) same (before-all first before run runs o.0)
behind-at (first ∷ before) run runs o (suc index) last e = behind-at before run runs o.1 index last e

on-plane : (rule : Rule) (run : Run) → IsGoodRun MAX_LEVEL rule run → IsRunOnPlane run.x run.y run.len
on-plane rule run g = record { west = g.left; east = g.right; north = g.top; south = g.bottom }

-- so further ones may be given
next-runs : (rule : Rule) (before runs : List Run) → AreGoodRuns MAX_LEVEL rule (before ++ runs) → AreRunsInOrder (before ++ runs) → AreNext before runs
next-runs rule before [] g o = tt
next-runs rule before (run ∷ runs) g o =
    let one = good-at rule before run runs g in
    let split : before ++ run ∷ runs ≡ (before ++ run ∷ []) ++ runs = sym (append_assoc before (run ∷ []) runs) in (
      one.some,
      on-plane rule run one,
      (λ last e. behind-at before run runs o (length before - 1) last e),
      next-runs rule (before ++ run ∷ []) runs (subst (AreGoodRuns MAX_LEVEL rule) split g) (subst AreRunsInOrder split o),
    )

nothing : (xs ys : List Run) → xs ++ ys ≡ [] → ys ≡ []
nothing [] ys e = e
nothing (x ∷ xs) ys e = cc

-- of the lines that have these runs and then those too
pub lines-next : (lines : List (List ℕ)) (before runs : List Run) → HasRuns MAX_LEVEL lines (before ++ runs) → AreNext before runs
lines-next lines before runs (inl h) = subst (AreNext before) (sym (nothing before runs h.2)) tt
lines-next lines before runs (inr h) =
    let r = runs_are_cells MAX_LEVEL lines h.0 h.1 in
    next-runs h.0.rule before runs (subst (AreGoodRuns MAX_LEVEL h.0.rule) (sym h.2) r.0) (subst AreRunsInOrder (sym h.2) r.1)
