use Rattle.std.proofs.Common.{◌+◌, ◌-◌, ◌∙◌, ap, arith, drop, length-drop}
use Rattle.std.proofs.lemmas.List.Edits.{drop-paste}
use Rattle.life_mc.proofs.LineSpace.{rest-kept}
use Rattle.life_mc.proofs.line_writing.copy_line.Goals as goal

pub returns-then-count-le16-clause-behind : goal.returns-then-count-le16-clause-behind
returns-then-count-le16-clause-behind c =
    rest-kept (c.args.to + 16) (c.args.end + 16) _ _ (omega (arith, c.requires.earlier, c.requires.ordered)) c.copy_block.ensures.behind

pub returns-then-count-le32-clause-behind : goal.returns-then-count-le32-clause-behind
returns-then-count-le32-clause-behind c =
    rest-kept (c.args.to + 32) (c.args.end + 16) _ _ (omega (arith, c.requires.earlier, c.requires.ordered, c.if-count-le16.false))
    c.copy_block-then-count-le32.ensures.behind

pub returns-then-count-le48-clause-behind : goal.returns-then-count-le48-clause-behind
returns-then-count-le48-clause-behind c =
    rest-kept (c.args.to + 48) (c.args.end + 16) _ _ (omega (arith, c.requires.earlier, c.requires.ordered, c.if-count-le32.false))
    c.copy_block-then-count-le48.ensures.behind

pub returns-clause-behind : goal.returns-clause-behind
returns-clause-behind c =
    let text = c.args.text.now in
    let from = c.args.from in
    let to = c.args.to in
    let count = c.args.end - from in
    rest-kept (to + count) (c.args.end + 16) text c.copy_within.new.self (omega (arith, c.requires.earlier, c.requires.ordered))
    (ap (drop (to + count)) c.copy_within.ensures.after
    ∙ drop-paste text to (drop from text) count (omega (arith, c.requires.earlier, c.requires.ordered, c.requires.space))
    (omega (arith, length-drop from text, c.requires.ordered, c.requires.space)))
