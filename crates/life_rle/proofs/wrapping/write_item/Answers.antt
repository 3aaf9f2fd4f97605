use Rattle.std.proofs.Common.{arith}
use Rattle.life_rle.proofs.PutItems.{tag-short}
use Rattle.life_rle.proofs.wrapping.write_item.Goals as goal
use Rattle.life_base.proofs.Texts.{digits_fit}

pub write_digits-requires : goal.write_digits-requires
write_digits-requires c =
    let short = tag-short c.args.rule.now c.args.item in
    let start = c.write_tag-tag.ensures.start in
    let few = digits_fit c.item_count-count.result c.item_count-count.type_inv in
    (omega (arith, short, start, few), omega (arith, start, c.write_tag-tag.array_long))

pub returns-clause-feed : goal.returns-clause-feed
returns-clause-feed c =
    let short = tag-short c.args.rule.now c.args.item in
    let start = c.write_tag-tag.ensures.start in
    let few = digits_fit c.item_count-count.result c.item_count-count.type_inv in
    omega (arith, short, start, few, c.write_digits.ensures.start)
