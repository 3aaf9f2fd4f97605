use Rattle.std.proofs.Common.{◌≡◌, ◌++◌, ◌-◌, ◌^◌, map, min, length, false}
use Rattle.life_base.specs.Text.{lines_of, numbered_from}
use Rattle.life_base.specs.declared.cell.TheConstants.{MAX_LEVEL}
use Rattle.life_base.proofs.NumberedLines.{texts, numbered}
use Rattle.life_rle.specs.File.{HasRuns}
use Rattle.life_rle.proofs.reading.read_rle.Given as goal

abbrev pub invariant-loop-number : goal.invariant-loop-number
invariant-loop-number l = record {
  all : map numbered l.yielded ++ l.number-iterator ≡ numbered_from 1 (lines_of l.bytes);
  consumed : l.reader.lines ≡ texts (map numbered l.yielded);
  fresh : l.reader.refused ≡ false;
  found : HasRuns MAX_LEVEL l.reader.lines l.runs.items;
  counted : l.last ≡ min (length l.reader.lines) (2 ^ 64 - 1);
}
