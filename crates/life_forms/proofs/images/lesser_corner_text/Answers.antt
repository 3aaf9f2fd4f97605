use Rattle.std.proofs.Common.{List, ℕ, Result, Ok, Err, IfOk, subst}
use Rattle.life_writer.specs.Lesser.{IsLesserText}
use Rattle.life_forms.proofs.TransposeFacts.{upright-text}
use Rattle.life_forms.proofs.images.lesser_corner_text.Goals as goal

all-three : {A E : Type 0} (r : Result A E) (P Q R S : A → Type 0) → ((a : A) → P a → Q a → R a → S a) → IfOk r P → IfOk r Q → IfOk r R → IfOk r S
all-three (Ok a) P Q R S f p q r = f a p q r
all-three (Err e) P Q R S f p q r = tt

pub returns-then-not-rows-clause-lesser : goal.returns-then-not-rows-clause-lesser
returns-then-not-rows-clause-lesser c =
    let moved = c.args.moved.now in
    let e = c.lesser_text.ensures in
    let is = upright-text c.squares_are_centred.ensures c.centred_squares_tell_cells.ensures c.args.columns c.args.rows c.if-not-columns.true
    c.if-not-rows.true c.args.form.now moved c.requires in
    all-three c.lesser_text.result _ _ _ _
    (λ text one first second. subst (λ (t : List ℕ). IsLesserText c.args.best.items t text.items) is (record { one = one; first = first; second = second }))
    e.one e.first e.second
