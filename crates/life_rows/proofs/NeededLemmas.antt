-- Which squares a step by rows stores: squares of the next generation.
use Rattle.std.proofs.Common.{◌≡◌, ℕ, ◌+◌, ◌-◌, ◌^◌, ◌≤◌, ◌<◌, ◌++◌, ◌∷◌, List, ℤ, pos, nat_abs, ◌+ℤ◌, ◌-ℤ◌, ◌<ℤ◌, sym, arith}
use Rattle.std.proofs.lemmas.Int.{ints}
use Rattle.life_base.specs.Sets.{OuterTotalistic}
use Rattle.life_base.specs.Tree.{Tree}
use Rattle.life_base.specs.declared.cell.Run.{Run}
use Rattle.life_base.specs.declared.cell.TheConstants.{MAX_LEVEL}
use Rattle.life_quad.specs.declared.id.Id.{Id}
use Rattle.life_next.specs.Generation.{next_life}
use Rattle.life_rows.specs.Needed.{SomeNextAbove, SomeNextOfRuns}
use Rattle.life_rows.specs.Stepping.{KeepsThreeRows}
use Rattle.life_strip.specs.Given.{by_columns, half_plane, state_by}
use Rattle.life_strip.specs.Needed.{SomeSquare}
use Rattle.life_strip.specs.Plane.{on_plane, state_so_far}
use Rattle.life_strip.specs.declared.plane.Plane.{Plane}
use Rattle.life_strip.specs.declared.row_builder.RowWord.{RowWord}
use Rattle.life_strip.proofs.MiddlePlanes.{by-pairs}
use Rattle.life_strip.proofs.NeededLemmas.{SomeSquare-within}

-- a square of the plane as far as it is filled is one of the next generation, if the rows above have that
pub next-needed : (f : ℕ → ℕ → ℕ) (rule : OuterTotalistic) (state : ℤ → ℤ → ℕ) (rows : ℕ) → rows ≤ 2 ^ MAX_LEVEL
    → ((x y : ℤ) → (y +ℤ pos half_plane) <ℤ pos rows → on_plane f x y ≡ next_life rule state x y) → (P : Tree → Type 0) → SomeSquare P rows f
    → SomeNextAbove P rows rule state
next-needed f rule state rows most same P s =
    SomeSquare-within (omega arith) (λ i j li lj. same (pos i -ℤ pos half_plane) (pos j -ℤ pos half_plane) (omega (arith, ints, lj))) (by-pairs f rows most s)

-- one above the next row of the middle of three rows
pub row-needed : (knows : Id → Type 0) (content : Id → Tree) (rule : OuterTotalistic) (builder : Plane) (north here south : List RowWord) (row left : ℕ)
    (runs : List Run) → KeepsThreeRows knows content rule builder north here south row left runs → row + 1 < 2 ^ MAX_LEVEL → (P : Tree → Type 0)
    → SomeSquare P (row + 1) (state_so_far content builder) → SomeNextAbove P (row + 1) rule (state_by runs)
row-needed knows content rule builder north here south row left runs are low =
    next-needed (state_so_far content builder) rule (state_by runs) (row + 1) (omega (arith, low)) (λ x y lt. are.done x y (omega (arith, ints, lt)))

-- so is one above further rows, of the same rule and the same runs
pub more-needed : {P : Tree → Type 0} {rows more : ℕ} {rule other : OuterTotalistic} {runs others : List Run} → rows ≤ more → rule ≡ other → runs ≡ others
    → SomeNextAbove P rows rule (state_by runs) → SomeNextAbove P more other (state_by others)
more-needed le e f s = SomeSquare-within le (λ i j li lj. λ k. by_columns (next_life (e k) (state_by (f k))) i j) s

-- a square that is stored before a run is taken is one of all the runs
pub of-runs : (P : Tree → Type 0) (rule : OuterTotalistic) (all before after : List Run) (run : Run) → before ++ run ∷ after ≡ all
    → SomeNextAbove P (nat_abs (run.y +ℤ pos half_plane) - 1) rule (state_by before) → SomeNextOfRuns P rule all
of-runs P rule all before after run e s = record { before = before; run = run; after = after; are = sym e; above = s }
