use Rattle.std.proofs.Common.{take}
use Rattle.life_strip.proofs.MiddleLemmas.{AreInside}
use Rattle.life_strip.proofs.middle.has_outside.Given as goal

abbrev pub invariant-loop-span : goal.invariant-loop-span
invariant-loop-span l = AreInside l.from l.to l.blank (take l.span-index l.spans)
