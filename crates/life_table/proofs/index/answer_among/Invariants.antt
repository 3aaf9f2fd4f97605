use Rattle.std.proofs.Common.{◌+◌, take, All}
use Rattle.life_table.specs.Meaning.{GivesNothing}
use Rattle.life_table.specs.Site.{centre_of, others_of}
use Rattle.life_table.proofs.index.answer_among.Given as goal

-- the lines so far give nothing
abbrev pub invariant-loop-k : goal.invariant-loop-k
invariant-loop-k l = All (GivesNothing l.symmetry l.site.vars.now (centre_of l.site) (others_of l.site)) (take (l.from + l.k) l.lines)
