use Rattle.std.proofs.Common.{lit≤, Result, Ok, Err, OnOk, ◌^◌, min}
use Rattle.std.proofs.lemmas.Result.{IfOk-weaker}
use Rattle.life_base.specs.declared.cell.TheConstants.{MAX_LEVEL}
use Rattle.life_pattern.specs.Store.{universe_in}
use Rattle.life_quad.proofs.LawLemmas.{known_squares_are_full}
use Rattle.life_forms.proofs.PlaneFacts.{outside-blank}
use Rattle.life_forms.proofs.TextFacts.{all-small, least-of-eight}
use Rattle.life_forms.proofs.images.least_text_from.Goals as goal

pub returns-clause-text : goal.returns-clause-text
returns-clause-text c =
    let u = universe_in c.args.store.now c.args.pattern.now in
    let outside = outside-blank _ (known_squares_are_full c.args.store.now c.args.pattern.now.root c.requires.trimmed.known.0).1 in
    IfOk-weaker c.bounded_image_text-3.result _ _
    (λ text is.
    least-of-eight MAX_LEVEL u (lit≤ tt) outside c.args.columns c.args.rows c.in_ok-least.least.items c.in_ok-two.two.items c.in_ok-three.three.items text.items
    c.in_ok-least.ensures.text c.in_ok-two.ensures.text c.in_ok-three.ensures.text is)
    c.bounded_image_text-3.ensures.text

weaker : {A E : Type 0} (r : Result A E) (P Q : Type 0) → (P → Q) → OnOk r P → OnOk r Q
weaker (Ok a) P Q f p = f p
weaker (Err e) P Q f p = tt

pub returns-clause-small : goal.returns-clause-small
returns-clause-small c =
    let u = universe_in c.args.store.now c.args.pattern.now in
    weaker c.bounded_image_text-3.result _ _
    (λ last large.
    all-small (min (2 ^ 21) c.args.store.now.limit) u c.args.columns c.args.rows c.in_ok-least.ensures.small c.in_ok-two.ensures.small
    c.in_ok-three.ensures.small last large.0 large.1)
    c.bounded_image_text-3.ensures.small
