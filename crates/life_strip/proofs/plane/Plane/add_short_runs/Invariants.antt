use Rattle.std.proofs.Common.{length, ◌-◌, ◌≡◌, ◌≤◌, ◌++◌, [], drop}
use Rattle.life_strip.specs.declared.row.Row.{Row}
use Rattle.life_strip.specs.Filling.{IsFilling}
use Rattle.life_strip.specs.Given.{AreNext}
use Rattle.life_strip.specs.Open.{AreOpen, blocks_of}
use Rattle.life_strip.proofs.plane.Plane.add_short_runs.Given as goal

-- with the blocks back in its row, the plane has the cells of the runs so far
abbrev pub invariant-loop-index : goal.invariant-loop-index
invariant-loop-index g l = record {
  within : l.index ≤ length l.runs;
  sound : AreOpen l.row;
  filling : (row : Row) → row.blocks.items ≡ blocks_of l.row → row.spans.items ≡ [] → IsFilling (g.S.Squares.knows l._squares)
      (g.S.Squares.content l._squares) (record { runs = l.log.runs; kept = record l.self { row = row } });
  next : AreNext l.log.runs (drop l.index l.runs);
  left : l.log.runs ++ drop l.index l.runs ≡ l.fn.log.runs ++ l.runs;
}

abbrev pub decreases-loop-index : goal.decreases-loop-index
decreases-loop-index g l = length l.runs - l.index
