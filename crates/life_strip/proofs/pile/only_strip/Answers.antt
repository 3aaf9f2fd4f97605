use Rattle.std.proofs.Common.{arith, sym, ◌∙◌}
use Rattle.std.proofs.lemmas.Option.{same_Some}
use Rattle.life_strip.proofs.MiddlePiles.{only-pop}
use Rattle.life_strip.proofs.pile.only_strip.Goals as goal

pub returns-in-Some : goal.returns-in-Some
returns-in-Some c s e =
    let ok = c.args.strips.now.ok.0 in
    same_Some _ _ (sym c.in-Some.is ∙ only-pop c.args.strips.now.items c.pop.new.self.items c.pop.result s c.pop.ensures.items
    (λ some. c.pop.ensures.variant.1 (omega (arith, some, ok))) e)

pub returns-in-None : goal.returns-in-None
returns-in-None c s e =
    let ok = c.args.strips.now.ok.0 in
    let none = sym c.in-None.is ∙ only-pop c.args.strips.now.items c.pop.new.self.items c.pop.result s c.pop.ensures.items
    (λ some. c.pop.ensures.variant.1 (omega (arith, some, ok))) e in
    absurd cc
