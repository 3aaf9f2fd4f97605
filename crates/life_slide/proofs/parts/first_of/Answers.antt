use Rattle.std.proofs.Common.{subst}
use Rattle.life_slide.specs.Parts.{TableGives}
use Rattle.life_slide.specs.declared.table.Key.{Key}
use Rattle.life_slide.proofs.PartLemmas.{first-more}
use Rattle.life_slide.proofs.parts.first_of.Goals as goal

pub returns-in-Some-clause-like : goal.returns-in-Some-clause-like
returns-in-Some-clause-like g c =
    c.requires.right c.args.columns c.args.rows c.args.quarters.now c.in-Some.first
    (subst (λ (key : Key). TableGives c.args.firsts.now key c.in-Some.first) c.of-key.ensures c.in-Some.ensures)

pub returns-clause-right : goal.returns-clause-right
returns-clause-right g c =
    first-more _ _ _ _ c.args.firsts.now c.put.new.self c.args.columns c.args.rows _ _ c.put.ensures c.args.quarters.now c.of-key.ensures c.requires.right
    c.requires.like
