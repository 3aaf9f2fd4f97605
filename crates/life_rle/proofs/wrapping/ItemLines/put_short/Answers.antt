use Rattle.std.proofs.Common.{◌∷◌, [], ◌++◌, length, sym, ap, ◌∙◌, append_assoc, arith}
use Rattle.life_rle.proofs.PutItems.{short-count}
use Rattle.life_rle.proofs.wrapping.ItemLines.put_short.Goals as goal

pub returns-then-count-ne1-clause-text : goal.returns-then-count-ne1-clause-text
returns-then-count-ne1-clause-text c =
    let old = c.args.self.now.text.items in
    let letter = c.args.letter ∷ [] in
    c.in_ok-push-2.ensures.items ∙ ap (λ l. l ++ letter) c.in_ok-push.ensures.items ∙ append_assoc old _ letter
    ∙ ap (λ digit. old ++ (digit ++ letter)) (sym (short-count c.args.count c.requires.digit c.if-count-ne1.true))

pub returns-then-count-ne1-clause-used : goal.returns-then-count-ne1-clause-used
returns-then-count-ne1-clause-used c =
    let len = ap (λ digit. length (digit ++ c.args.letter ∷ [])) (short-count c.args.count c.requires.digit c.if-count-ne1.true) in
    omega (arith, len)
