use Rattle.std.proofs.Common.{◌+◌, ◌<◌, ◌≤◌, ◌%◌, length}
use Rattle.life_mc.specs.Standing.{WritesBetween}
use Rattle.life_mc.proofs.numbers.last_number.Given as goal

abbrev pub invariant-loop-count : goal.invariant-loop-count
invariant-loop-count l = record {
  written : WritesBetween l.text l.from (l.from + l.count) l.number;
  space : 0 < l.count % 4 → l.from + l.count + 4 ≤ length l.text + l.count % 4;
}
