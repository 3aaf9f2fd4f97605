use Rattle.life_mc.specs.Standing.{WritesBetween}
use Rattle.life_mc.proofs.numbers.spaced_rest.Given as goal

abbrev pub invariant-loop-i : goal.invariant-loop-i
invariant-loop-i l = WritesBetween l.text l.from l.i l.number
