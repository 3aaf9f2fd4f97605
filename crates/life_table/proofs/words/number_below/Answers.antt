use Rattle.std.proofs.Common.{arith, sym, ◌∙◌}
use Rattle.life_table.proofs.Digits.{unread}
use Rattle.life_table.proofs.words.number_below.Goals as goal

pub returns-in_default-2 : goal.returns-in_default-2
returns-in_default-2 c = unread c.args.word.now c.args.limit c.in_default.field-0 (sym c.in_default.is ∙ c.read_u64.ensures) (omega arith)
