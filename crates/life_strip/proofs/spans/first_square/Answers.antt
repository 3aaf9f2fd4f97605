use Rattle.std.proofs.Common.{sym, ◌∙◌, refl, arith}
use Rattle.life_strip.proofs.PlaceLemmas.{at-square}
use Rattle.life_strip.proofs.spans.first_square.Goals as goal

pub place_at-requires-clause-past : goal.place_at-requires-clause-past
place_at-requires-clause-past c x le = refl

pub returns : goal.returns
returns c =
    let h = c.place_at.ensures.place in
    c.square_of.ensures ∙ sym (at-square c.args.spans.now 0 c.place_at.result h c.args.blank 0 (omega arith) h.beyond)
