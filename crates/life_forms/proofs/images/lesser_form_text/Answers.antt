use Rattle.std.proofs.Common.{true, false, lit≤, Result, Ok, Err, OnOk, ◌^◌, min}
use Rattle.std.proofs.lemmas.Result.{IfOk-weaker}
use Rattle.life_base.specs.declared.cell.TheConstants.{MAX_LEVEL}
use Rattle.life_quad.proofs.LawLemmas.{known_squares_are_full}
use Rattle.life_pattern.specs.Store.{universe_in}
use Rattle.life_slide.proofs.MovedLemmas.{cell-below}
use Rattle.life_forms.proofs.PlaneFacts.{outside-blank}
use Rattle.life_forms.specs.Turns.{turn_of}
use Rattle.life_forms.proofs.RefusalFacts.{refused-form}
use Rattle.life_forms.proofs.TextFacts.{lesser-of-two}
use Rattle.life_forms.proofs.TransposeFacts.{corner-text, small-both}
use Rattle.life_forms.proofs.images.lesser_form_text.Goals as goal

pub returns-clause-text : goal.returns-clause-text
returns-clause-text c =
    let u = universe_in c.args.store.now c.args.pattern.now in
    let outside = outside-blank _ (known_squares_are_full c.args.store.now c.args.pattern.now.root c.requires.trimmed.known.0).1 in
    let of_image = corner-text c.squares_are_centred.ensures c.centred_squares_tell_cells.ensures u c.args.columns c.args.rows c.in_ok-form.form
    c.in_ok-form.moved c.in_ok-form.ensures.trimmed c.in_ok-form.ensures.moved in
    IfOk-weaker c.lesser_turned_text.result _ _
    (λ text is.
    lesser-of-two MAX_LEVEL u (lit≤ tt) outside c.args.columns c.args.rows _ _ (of_image false) (of_image true) c.args.best.items c.in_ok-lesser.lesser.items
    text.items c.in_ok-lesser.ensures.lesser is)
    c.lesser_turned_text.ensures.lesser

always : {A E : Type 0} (r : Result A E) (P : Type 0) → P → OnOk r P
always (Ok a) P p = p
always (Err e) P p = tt

pub returns-clause-image : goal.returns-clause-image
returns-clause-image c =
    let u = universe_in c.args.store.now c.args.pattern.now in
    let of_image = corner-text c.squares_are_centred.ensures c.centred_squares_tell_cells.ensures u c.args.columns c.args.rows c.in_ok-form.form
    c.in_ok-form.moved c.in_ok-form.ensures.trimmed c.in_ok-form.ensures.moved in
    always c.lesser_turned_text.result _ (_, of_image false)

pub returns-clause-small : goal.returns-clause-small
returns-clause-small c =
    let u = universe_in c.args.store.now c.args.pattern.now in
    let full = (known_squares_are_full c.args.store.now c.args.pattern.now.root c.requires.trimmed.known.0).0 in
    always c.lesser_turned_text.result _
    (small-both c.squares_are_centred.ensures c.centred_squares_tell_cells.ensures (min (2 ^ 21) c.args.store.now.limit) u c.args.columns c.args.rows
    (cell-below _ full) c.in_ok-form.ensures.small)

pub returns-in_err-form-clause-fault : goal.returns-in_err-form-clause-fault
returns-in_err-form-clause-fault c =
    refused-form c.args.store.now c.args.pattern.now (turn_of false c.args.columns c.args.rows) c.from_residual.result c.from_residual.ensures.1
    c.in_err-form.ensures.fault
