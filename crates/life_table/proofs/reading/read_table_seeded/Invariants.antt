use Rattle.std.proofs.Common.{◌≡◌, ◌++◌, ◌+◌, ◌-◌, ◌^◌, min, List, ℕ, map, length, Bor}
use Rattle.life_base.specs.Text.{lines_of, numbered_from}
use Rattle.life_table.specs.Reading.{NumberedLine}
use Rattle.life_table.proofs.ReadLines.{Reads}
use Rattle.life_table.proofs.reading.read_table_seeded.Given as goal

abbrev pub numbered : ℕ × Bor (List ℕ) → NumberedLine
numbered p = (p.0, p.1.now)

abbrev pub invariant-loop-number : goal.invariant-loop-number
invariant-loop-number l = record {
  all : map numbered l.yielded ++ l.number-iterator ≡ numbered_from 1 (lines_of l.bytes);
  reads : Reads (map numbered l.yielded) l.reader.parsed l.reader.fits;
  next : l.next ≡ min (length (map numbered l.yielded) + 1) (2 ^ 64 - 1);
}
