use Rattle.std.proofs.Common.{false, true, lit≤}
use Rattle.life_base.specs.declared.cell.TheConstants.{MAX_LEVEL}
use Rattle.life_quad.proofs.LawLemmas.{known_squares_are_full}
use Rattle.life_pattern.specs.Store.{universe_in}
use Rattle.life_forms.proofs.PlaneFacts.{outside-blank}
use Rattle.life_forms.proofs.TextFacts.{lesser-of-two}
use Rattle.life_forms.proofs.images.lesser_small_text.Goals as goal

pub returns-clause-text : goal.returns-clause-text
returns-clause-text c =
    let u = universe_in c.args.store.now c.args.pattern.now in
    let outside = outside-blank _ (known_squares_are_full c.args.store.now c.args.pattern.now.root c.requires.trimmed.known.0).1 in
    let corner = c.requires.corner in
    let is = c.in_ok-text.ensures.text u.rule u.generation corner.life c.requires.prefix in
    lesser-of-two MAX_LEVEL u (lit≤ tt) outside c.args.columns c.args.rows _ _ (corner.text false) (corner.text true) c.args.best.items is.lesser
    c.in_ok-text.text.items is.one is.two

pub returns-clause-image : goal.returns-clause-image
returns-clause-image c = (_, c.requires.corner.text false)
