use Rattle.life_base.specs.declared.cell.TheConstants.{MAX_LEVEL}
use Rattle.life_base.specs.Tree.{blank}
use Rattle.std.proofs.Common.{◌≡◌, suc, ◌-◌, ◌*◌, ◌^◌, ◌≤◌, ◌<◌, length, take}
use Rattle.life_quad.specs.Moves.{CanJoin, quad_of}
use Rattle.life_strip.specs.Strip.{ArePieces, IsAt, quad_at}
use Rattle.life_strip.proofs.spans.gather.Given as goal

abbrev pub invariant-loop-first : goal.invariant-loop-first
invariant-loop-first g l = record {
  pieces : ArePieces (CanJoin (g.S.Squares.knows l.squares) (g.S.Squares.content l.squares)) (quad_of (g.S.Squares.content l.squares))
      (quad_at (g.S.Squares.content l.squares) l.level l.upper l.lower) (blank (suc l.level)) (2 ^ (MAX_LEVEL - suc l.level)) l.fn.walk.column
      (take l.count l.spans) (take l.count l.quarters) l.column;
  north : IsAt l.upper (2 * l.column) l.north;
  south : IsAt l.lower (2 * l.column) l.south;
  within : l.column ≤ 2 ^ (MAX_LEVEL - suc l.level);
  count : l.count ≤ length l.spans;
  upper : l.first ≤ l.north.start;
  lower : l.first ≤ l.south.start;
  one : l.north.start ≤ l.south.start → l.first ≡ l.north.start;
  other : l.south.start < l.north.start → l.first ≡ l.south.start;
}

abbrev pub decreases-loop-first : goal.decreases-loop-first
decreases-loop-first g l = 2 ^ (MAX_LEVEL - suc l.level) - l.column
