use Rattle.std.proofs.Common.{arith}
use Rattle.std.proofs.lemmas.Nat.{trailing_le}
use Rattle.life_strip.proofs.StretchLemmas.{blank-behind}
use Rattle.life_strip.proofs.words.blank_from.Goals as goal

pub overflow_sub-result : goal.overflow_sub-result
overflow_sub-result c = let most = trailing_le 64 c.all_rows.result in omega (arith, c.from.ensures, most)

pub returns-clause-blank : goal.returns-clause-blank
returns-clause-blank c i from before =
    blank-behind c.args.upper c.args.lower c.all_rows.result c.all_rows.ensures i (omega (arith, c.from.ensures, from)) before
