use Rattle.std.proofs.Common.{◌≡◌, ℕ, ℤ}
use Rattle.life_quad.specs.Keeping.{KeepsSquares, AddsOnly}
use Rattle.life_sweep.specs.Refused.{SomeNext}
use Rattle.life_sweep.specs.RunBuilder.{IsHolding, drawn_runs}
use Rattle.life_strip.specs.Given.{state_by}
use Rattle.life_next.specs.Generation.{one_after}
use Rattle.life_sweep.specs.Rows.{IsSoundWindow, IsWindowBelow, IsWindow, steps_left}
use Rattle.life_sweep.specs.Sweep.{IsReadyFrom, IsScene, IsSwept, IsSweptRows}
use Rattle.life_sweep.proofs.sweep.draw_row.Given as goal

-- the places of the row up to that of the window are drawn
abbrev pub invariant-loop-window : goal.invariant-loop-window
invariant-loop-window g l = record {
  sound : IsSoundWindow l.window;
  below : IsWindowBelow (g.L.Law.bound l.fn.law) l.window;
  same : l.law ≡ l.fn.law;
  holding : IsHolding (g.S.Squares.knows l.squares) (g.S.Squares.content l.squares) l.builder;
  ready : IsReadyFrom (drawn_runs l.builder) (one_after l.window.x) l.y;
  swept : (cells : ℤ → ℤ → ℕ) → IsScene cells l.y l.fn.rows
      → IsSweptRows (g.L.Law.answers l.fn.law) cells (state_by (drawn_runs l.fn.builder)) l.leaves l.y
      → IsWindow cells l.y l.window × IsSwept (g.L.Law.answers l.fn.law) cells (state_by (drawn_runs l.builder)) l.left (one_after l.window.x) l.y;
  keeps : KeepsSquares g.S.Squares.knows g.S.Squares.content g.S.Squares.stored g.S.Squares.most l.fn.squares l.squares;
  adds : AddsOnly g.S.Squares.stored
      (λ P. (cells : ℤ → ℤ → ℕ) → IsScene cells l.y l.fn.rows
      → IsSweptRows (g.L.Law.answers l.fn.law) cells (state_by (drawn_runs l.fn.builder)) l.leaves l.y → SomeNext P (g.L.Law.answers l.fn.law) cells)
      l.fn.squares l.squares;
}

abbrev pub decreases-loop-window : goal.decreases-loop-window
decreases-loop-window g l = steps_left l.window
