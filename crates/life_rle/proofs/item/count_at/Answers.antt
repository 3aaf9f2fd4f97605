use Rattle.std.proofs.Common.{◌≡◌, ◌∙◌, ◌+◌, ◌∷◌, ◌<◌, ap, sym, arith, drop, get_or, length}
use Rattle.life_base.specs.declared.cell.TheConstants.{MAX_LEVEL}
use Rattle.life_rle.specs.Items.{item_after, next_of}
use Rattle.life_rle.specs.Reader.{digits}
use Rattle.life_rle.proofs.DigitInPrefix.{text_at, digit_in_prefix}
use Rattle.life_rle.proofs.item.count_at.Goals as goal

pub returns-clause-count : goal.returns-clause-count
returns-clause-count c other =
    let line = c.args.line.now in
    let at = c.args.at in
    let first = get_or line at 0 in
    let more : at + 1 < length line = omega (arith, c.if-at-line.false, c.requires) in
    let two : drop at line ≡ first ∷ get_or line (at + 1) 0 ∷ drop (at + 1 + 1) line =
    text_at line at c.requires ∙ ap (λ t. first ∷ t) (text_at line (at + 1) more) in
    digits (omega arith)
    (ap (next_of MAX_LEVEL) two ∙ digit_in_prefix first (get_or line (at + 1) 0) (drop (at + 1 + 1) line) (omega (arith, c.if-first-lt49.false))
    (omega (arith, c.if-first-gt57.false)) other
    ∙ ap (λ n. item_after n (get_or line (at + 1) 0 ∷ drop (at + 1 + 1) line)) (sym c.from.ensures)
    ∙ ap (item_after c.from.result) (sym (text_at line (at + 1) more)))
