use Rattle.life_strip.specs.Strip.{IsPast}
use Rattle.life_strip.proofs.spans.square_in_column.Given as goal

-- the spans that were passed end before the column
abbrev pub invariant-loop-span : goal.invariant-loop-span
invariant-loop-span l = IsPast l.spans l.span-index l.column
