use Rattle.std.proofs.Common.{◌≡◌, ℕ, ℤ}
use Rattle.life_quad.specs.Keeping.{KeepsSquares, AddsOnly}
use Rattle.life_sweep.specs.Refused.{SomeNext}
use Rattle.life_sweep.specs.RunBuilder.{IsHolding, drawn_runs}
use Rattle.life_strip.specs.Given.{state_by}
use Rattle.life_next.specs.Generation.{one_after}
use Rattle.life_sweep.specs.Rows.{IsSoundBand, IsBandBelow, IsBandOfRows, rows_left}
use Rattle.life_sweep.specs.Sweep.{IsReadyRow, IsSorted, IsSweptRows}
use Rattle.life_sweep.proofs.sweep.next_square.Given as goal

-- the rows up to that of the band are drawn
abbrev pub invariant-loop-band : goal.invariant-loop-band
invariant-loop-band g l = record {
  sound : IsSoundBand l.band;
  below : IsBandBelow (g.L.Law.bound l.fn.law) l.band;
  same : l.law ≡ l.fn.law;
  holding : IsHolding (g.S.Squares.knows l.squares) (g.S.Squares.content l.squares) l.builder;
  ready : IsReadyRow (drawn_runs l.builder) (one_after l.band.y);
  swept : (plane : ℤ → ℤ → ℕ) → IsSorted plane l.cells
      → IsBandOfRows plane l.band × IsSweptRows (g.L.Law.answers l.fn.law) plane (state_by (drawn_runs l.builder)) l.leaves (one_after l.band.y);
  keeps : KeepsSquares g.S.Squares.knows g.S.Squares.content g.S.Squares.stored g.S.Squares.most l.fn.squares l.squares;
  adds : AddsOnly g.S.Squares.stored
      (λ P. (plane : ℤ → ℤ → ℕ) → IsSorted plane l.cells → SomeNext P (g.L.Law.answers l.fn.law) plane) l.fn.squares l.squares;
}

abbrev pub decreases-loop-band : goal.decreases-loop-band
decreases-loop-band g l = rows_left l.band
