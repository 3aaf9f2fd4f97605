use Rattle.std.proofs.lemmas.Result.{IfErr-weaker, IfOk-weaker}
use Rattle.pattern_forms.specs.InForm.{most_of_form}
use Rattle.life_base.specs.declared.form.Form.TheVariants.{Placed, Moved, Turned}
use Rattle.pattern_forms.proofs.FileForms.{form-fault, form-text, in-any-case, is-trimmed, phases-fault, phases-text}
use Rattle.pattern_forms.proofs.forms.text_in.Goals as goal

pub text_of-requires : goal.text_of-requires
text_of-requires c = is-trimmed c.patterns_fit.ensures _ _ c.requires

pub moved_text-requires : goal.moved_text-requires
moved_text-requires c = is-trimmed c.patterns_fit.ensures _ _ c.requires

pub turned_text-requires : goal.turned_text-requires
turned_text-requires c = is-trimmed c.patterns_fit.ensures _ _ c.requires

pub returns-in-Placed-clause-text : goal.returns-in-Placed-clause-text
returns-in-Placed-clause-text c =
    rw c.in-Placed.is (form-text c.patterns_fit.ensures _ Placed (most_of_form c.args.store.now) _ (λ text. text.items) c.text_of.result c.text_of.ensures.text
    (in-any-case c.text_of.result (λ large. large)))

pub returns-in-Moved-clause-text : goal.returns-in-Moved-clause-text
returns-in-Moved-clause-text c =
    rw c.in-Moved.is (form-text c.patterns_fit.ensures _ Moved (most_of_form c.args.store.now) _ (λ text. text.items) c.moved_text.result
    c.moved_text.ensures.text c.moved_text.ensures.small)

pub returns-in-Turned-clause-text : goal.returns-in-Turned-clause-text
returns-in-Turned-clause-text c =
    rw c.in-Turned.is (form-text c.patterns_fit.ensures _ Turned (most_of_form c.args.store.now) _ (λ text. text.items) c.turned_text.result
    c.turned_text.ensures.text c.turned_text.ensures.small)

pub returns-in-Moved-clause-fault : goal.returns-in-Moved-clause-fault
returns-in-Moved-clause-fault c =
    rw c.in-Moved.is (form-fault c.patterns_fit.ensures _ Moved (most_of_form c.args.store.now) _ c.moved_text.result c.moved_text.ensures.fault)

pub returns-in-Turned-clause-fault : goal.returns-in-Turned-clause-fault
returns-in-Turned-clause-fault c =
    rw c.in-Turned.is (form-fault c.patterns_fit.ensures _ Turned (most_of_form c.args.store.now) _ c.turned_text.result c.turned_text.ensures.fault)

pub returns-in-Phases-clause-text : goal.returns-in-Phases-clause-text
returns-in-Phases-clause-text c =
    rw c.in-Phases.is (IfOk-weaker c.phases_text.result _ _ (λ text is bytes read.
    phases-text c.in-Phases.most (most_of_form c.args.store.now) bytes text.items (is bytes read)) c.phases_text.ensures.text)

pub returns-in-Phases-clause-fault : goal.returns-in-Phases-clause-fault
returns-in-Phases-clause-fault c =
    rw c.in-Phases.is (IfErr-weaker c.phases_text.result _ _
    (phases-fault c.in-Phases.most (most_of_form c.args.store.now) c.args.store.now c.args.pattern.now) c.phases_text.ensures.refused)
