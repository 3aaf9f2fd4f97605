use Rattle.std.proofs.Common.{◌≡◌, ◌++◌, map, false}
use Rattle.life_base.specs.Text.{lines_of, numbered_from}
use Rattle.life_base.proofs.NumberedLines.{texts, numbered}
use Rattle.life_quad.specs.Keeping.{AddsOnly}
use Rattle.life_quad.specs.Store.{stored_squares}
use Rattle.life_pattern.specs.Store.{Keeps}
use Rattle.life_step.specs.ByRows.{KeepsRows, SomeByRows}
use Rattle.life_step.proofs.by_rows.next_square.Given as goal

abbrev pub invariant-loop-line : goal.invariant-loop-line
invariant-loop-line l = record {
  all : map numbered l.yielded ++ l.line-iterator ≡ numbered_from 1 (lines_of l.bytes);
  consumed : l.reader.lines ≡ texts (map numbered l.yielded);
  fresh : l.reader.refused ≡ false;
  rule : l.step.rule ≡ l.rule;
  keeps : Keeps l.fn.store l.store;
  adds : AddsOnly stored_squares (λ P. SomeByRows P l.rule l.bytes) l.fn.store l.store;
  rows : KeepsRows l.store l.reader.lines l.step;
}
