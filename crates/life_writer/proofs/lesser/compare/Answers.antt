use Rattle.std.proofs.Common.{◌≡◌, length, take, sym, ap, ◌∙◌, true≢false}
use Rattle.std.specs.Ordering.{is_lt}
use Rattle.std.proofs.lemmas.Slice.Eq.{bytes_eq-Decides}
use Rattle.life_writer.proofs.OrderFacts.{new-is-lesser, old-is-lesser}
use Rattle.life_writer.proofs.lesser.compare.Goals as goal

pub returns-then-is_lt : goal.returns-then-is_lt
returns-then-is_lt c = λ more.
    let piece = c.args.piece.now in
    let rest = c.args.rest.now in
    let prefix : ¬ (take (length piece) rest ≡ piece) = λ e.
    true≢false (sym ((bytes_eq-Decides (take (length piece) rest) piece).1 e) ∙ sym c.begins_with.ensures ∙ c.if-begins_with.false) in
    new-is-lesser piece rest more prefix (ap is_lt (sym c.cmp.ensures) ∙ sym c.is_lt.ensures ∙ c.if-is_lt.true)

pub returns-else-is_lt : goal.returns-else-is_lt
returns-else-is_lt c = λ more.
    old-is-lesser c.args.piece.now c.args.rest.now more (ap is_lt (sym c.cmp.ensures) ∙ sym c.is_lt.ensures ∙ c.if-is_lt.false)
