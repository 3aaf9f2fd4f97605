use Rattle.std.proofs.Common.{◌≡◌, ◌++◌, map, false}
use Rattle.life_base.specs.Text.{lines_of, numbered_from}
use Rattle.life_mc.specs.Reading.{squares_of}
use Rattle.life_mc.specs.Laws.{IsUnbrokenMacrocell}
use Rattle.life_base.proofs.NumberedLines.{texts, numbered}
use Rattle.life_base.specs.declared.cell.TheConstants.{MAX_LEVEL}
use Rattle.life_mc.proofs.reading.read_mc.Given as goal

abbrev pub invariant-loop-number : goal.invariant-loop-number
invariant-loop-number l = record {
  all : map numbered l.yielded ++ l.number-iterator ≡ numbered_from 1 (lines_of l.bytes);
  consumed : l.reader.lines ≡ texts (map numbered l.yielded);
  fresh : l.reader.refused ≡ false;
  unbroken : IsUnbrokenMacrocell MAX_LEVEL l.reader.lines;
  squares : l.squares.items ≡ squares_of l.reader.lines;
}
