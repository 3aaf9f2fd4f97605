use Rattle.life_base.specs.declared.cell.TheConstants.{MAX_LEVEL}
use Rattle.std.proofs.Common.{◌≡◌, suc, ◌+◌, ◌-◌, ◌^◌, ◌≤◌, ◌<◌, length}
use Rattle.life_quad.specs.Keeping.{KeepsSquares, AddsOnly}
use Rattle.life_strip.specs.declared.spans.TheConstants.{NEVER}
use Rattle.life_strip.specs.Strip.{FilledTo, IsWalk, quad_at}
use Rattle.life_strip.specs.Needed.{SomeColumn}
use Rattle.life_strip.proofs.spans.pair_in_batches.Given as goal

abbrev pub invariant-loop-walk : goal.invariant-loop-walk
invariant-loop-walk g l = record {
  filled : FilledTo (g.S.Squares.knows l.squares) (g.S.Squares.content l.squares) (suc l.level)
      (quad_at (g.S.Squares.content l.fn.squares) l.level l.upper l.lower) l.spans.items l.walk.column;
  walk : IsWalk l.level l.upper l.lower l.walk.column l.walk.north l.walk.south;
  pieces : length l.pieces ≡ 32;
  quarters : length l.quarters ≡ 32;
  count : l.walk.count ≤ 32;
  over : l.walk.count < 32 → (NEVER ≤ l.walk.north.start) × (NEVER ≤ l.walk.south.start);
  keeps : KeepsSquares g.S.Squares.knows g.S.Squares.content g.S.Squares.stored g.S.Squares.most l.fn.squares l.squares;
  adds : AddsOnly g.S.Squares.stored
      (λ P. SomeColumn P (l.level + 1) (quad_at (g.S.Squares.content l.fn.squares) l.level l.upper l.lower)) l.fn.squares l.squares;
}

abbrev pub decreases-loop-walk : goal.decreases-loop-walk
decreases-loop-walk g l = 2 ^ (MAX_LEVEL - suc l.level) - l.walk.column + l.walk.count
