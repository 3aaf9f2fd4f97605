use Rattle.std.proofs.Common.{Result, Ok, Err, IfOk, OnOk}
use Rattle.life_base.specs.declared.cell.TheConstants.{MAX_LEVEL}
use Rattle.life_pattern.specs.Store.{universe_in}
use Rattle.life_forms.proofs.TextFacts.{least-of-lesser}
use Rattle.life_forms.proofs.images.image_text.Goals as goal

with-image : {A E : Type 0} (r : Result A E) (P Q : A → Type 0) (I : Type 0) → ((a : A) → P a → I → Q a) → IfOk r P → OnOk r I → IfOk r Q
with-image (Ok a) P Q I f p i = f a p i
with-image (Err e) P Q I f p i = tt

pub returns-clause-text : goal.returns-clause-text
returns-clause-text c =
    let u = universe_in c.args.store.now c.args.pattern.now in
    with-image c.lesser_image_text.result _ _ _
    (λ text lesser image.
    least-of-lesser MAX_LEVEL u c.args.columns c.args.rows c.in_ok-above.above.items text.items c.in_ok-above.ensures.text lesser image)
    c.lesser_image_text.ensures.text c.lesser_image_text.ensures.image
