use Rattle.std.proofs.Common.{◌≡◌, ◌++◌, map}
use Rattle.life_base.specs.Text.{lines_of, numbered_from}
use Rattle.life_base.proofs.NumberedLines.{texts, numbered}
use Rattle.life_step.proofs.by_rows.header_rule.Given as goal

abbrev pub invariant-loop-line : goal.invariant-loop-line
invariant-loop-line l = record {
  all : map numbered l.yielded ++ l.line-iterator ≡ numbered_from 1 (lines_of l.bytes);
  consumed : l.reader.lines ≡ texts (map numbered l.yielded);
}
