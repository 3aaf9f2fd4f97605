use Rattle.std.proofs.Common.{arith}
use Rattle.life_strip.proofs.StretchLemmas.{blank-before}
use Rattle.life_strip.proofs.words.blank_to.Goals as goal

pub returns-clause-blank : goal.returns-clause-blank
returns-clause-blank c i before =
    blank-before c.args.upper c.args.lower c.all_rows.result c.all_rows.ensures (omega arith) i (omega (arith, c.from.ensures, before))
