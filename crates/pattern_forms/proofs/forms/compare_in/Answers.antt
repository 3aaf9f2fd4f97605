use Rattle.std.proofs.Common.{inl, inr}
use Rattle.std.proofs.lemmas.Result.{IfErr-weaker, IfOk-weaker}
use Rattle.life_forms.specs.Forms.{IsShift, IsTurnedShift}
use Rattle.pattern_forms.specs.InForm.{OneLacksFormIn, most_of_form}
use Rattle.life_base.specs.declared.form.Form.TheVariants.{Moved, Turned}
use Rattle.pattern_forms.proofs.FileForms.{both-stay, first-to-leave, is-rule, is-trimmed, neither, one-course, two-answers, two-err, two-fault, two-full, two-ok, two-on, two-phases-fault, two-small}
use Rattle.pattern_forms.proofs.forms.compare_in.Goals as goal

pub are_shifts-requires-clause-a : goal.are_shifts-requires-clause-a
are_shifts-requires-clause-a c = is-trimmed c.patterns_fit.ensures _ _ c.requires.a

pub are_shifts-requires-clause-b : goal.are_shifts-requires-clause-b
are_shifts-requires-clause-b c = is-trimmed c.patterns_fit.ensures _ _ c.requires.b

pub are_turns-requires-clause-a : goal.are_turns-requires-clause-a
are_turns-requires-clause-a c = is-trimmed c.patterns_fit.ensures _ _ c.requires.a

pub are_turns-requires-clause-b : goal.are_turns-requires-clause-b
are_turns-requires-clause-b c = is-trimmed c.patterns_fit.ensures _ _ c.requires.b

pub are_turns-requires-clause-a_rule : goal.are_turns-requires-clause-a_rule
are_turns-requires-clause-a_rule c = is-rule c.patterns_fit.ensures _ c.files_are_on_plane.ensures _ c.requires.a

pub are_turns-requires-clause-b_rule : goal.are_turns-requires-clause-b_rule
are_turns-requires-clause-b_rule c = is-rule c.patterns_fit.ensures _ c.files_are_on_plane.ensures _ c.requires.b

pub returns-in-Placed-clause-answer : goal.returns-in-Placed-clause-answer
returns-in-Placed-clause-answer c =
    rw c.in-Placed.is (λ first second p q.
    let reported = c.patterns_tell_files.ensures first second c.args.store.now c.args.a.now c.args.b.now p q in
    (λ h. reported.0 (c.are_same.ensures.0 h), λ s. c.are_same.ensures.1 (reported.1 s)))

pub returns-in-Placed-clause-have : goal.returns-in-Placed-clause-have
returns-in-Placed-clause-have c = rw c.in-Placed.is (λ first second p q large. large.related)

pub returns-in-Moved-clause-answer : goal.returns-in-Moved-clause-answer
returns-in-Moved-clause-answer c =
    rw c.in-Moved.is (two-ok c.are_shifts.result c.as_of_two.result c.as_of_two.ensures.answer c.as_of_two.ensures.fault _
    (two-answers c.patterns_fit.ensures c.args.store.now IsShift c.args.a.now c.args.b.now c.files_are_unique.ensures c.are_shifts.result
    c.are_shifts.ensures.answer))

pub returns-in-Moved-clause-have : goal.returns-in-Moved-clause-have
returns-in-Moved-clause-have c =
    rw c.in-Moved.is (two-on c.are_shifts.result c.as_of_two.result c.as_of_two.ensures.answer c.as_of_two.ensures.fault _
    (two-small c.patterns_fit.ensures c.args.store.now (OneLacksFormIn Moved (most_of_form c.args.store.now)) c.args.a.now c.args.b.now
    c.files_are_unique.ensures c.are_shifts.result
    (IfOk-weaker c.are_shifts.result _ _ (λ answer small. neither small) c.are_shifts.ensures.small)))

pub returns-in-Moved-clause-fault : goal.returns-in-Moved-clause-fault
returns-in-Moved-clause-fault c =
    rw c.in-Moved.is (two-err c.are_shifts.result c.as_of_two.result c.as_of_two.ensures.answer c.as_of_two.ensures.fault _
    (two-fault c.patterns_fit.ensures c.args.store.now (OneLacksFormIn Moved (most_of_form c.args.store.now)) c.args.a.now c.args.b.now
    Moved c.are_shifts.result c.are_shifts.ensures.fault))

pub returns-in-Moved-clause-whose : goal.returns-in-Moved-clause-whose
returns-in-Moved-clause-whose c =
    two-full c.are_shifts.result c.as_of_two.result c.as_of_two.ensures.answer c.as_of_two.ensures.fault _ _ c.are_shifts.ensures.fault
    (λ fault large. large.0)

pub returns-in-Turned-clause-answer : goal.returns-in-Turned-clause-answer
returns-in-Turned-clause-answer c =
    rw c.in-Turned.is (two-ok c.are_turns.result c.as_of_two-in-Turned.result c.as_of_two-in-Turned.ensures.answer c.as_of_two-in-Turned.ensures.fault _
    (two-answers c.patterns_fit.ensures c.args.store.now IsTurnedShift c.args.a.now c.args.b.now c.files_are_unique.ensures
    c.are_turns.result c.are_turns.ensures.answer))

pub returns-in-Turned-clause-have : goal.returns-in-Turned-clause-have
returns-in-Turned-clause-have c =
    rw c.in-Turned.is (two-on c.are_turns.result c.as_of_two-in-Turned.result c.as_of_two-in-Turned.ensures.answer c.as_of_two-in-Turned.ensures.fault _
    (two-small c.patterns_fit.ensures c.args.store.now (OneLacksFormIn Turned (most_of_form c.args.store.now)) c.args.a.now c.args.b.now
    c.files_are_unique.ensures c.are_turns.result
    (IfOk-weaker c.are_turns.result _ _ (λ answer small large. neither (small large.0) large.1) c.are_turns.ensures.small)))

pub returns-in-Turned-clause-fault : goal.returns-in-Turned-clause-fault
returns-in-Turned-clause-fault c =
    rw c.in-Turned.is (two-err c.are_turns.result c.as_of_two-in-Turned.result c.as_of_two-in-Turned.ensures.answer c.as_of_two-in-Turned.ensures.fault _
    (two-fault c.patterns_fit.ensures c.args.store.now (OneLacksFormIn Turned (most_of_form c.args.store.now)) c.args.a.now c.args.b.now
    Turned c.are_turns.result (IfErr-weaker c.are_turns.result _ _ (λ fault why. elim why [
      | inl memory ↦ inl memory
      | inr large ↦ inr (large.0, (large.1, large.2))
    ]) c.are_turns.ensures.fault)))

pub returns-in-Turned-clause-whose : goal.returns-in-Turned-clause-whose
returns-in-Turned-clause-whose c =
    two-full c.are_turns.result c.as_of_two-in-Turned.result c.as_of_two-in-Turned.ensures.answer c.as_of_two-in-Turned.ensures.fault _ _
    c.are_turns.ensures.fault (λ fault large. large.0)

pub returns-in-Phases-clause-answer : goal.returns-in-Phases-clause-answer
returns-in-Phases-clause-answer c =
    rw c.in-Phases.is (IfOk-weaker c.are_phases.result _ _ (λ answer is a b one other.
    let same = one-course c.in-Phases.most (most_of_form c.args.store.now) a b in
    (λ yes. same.0 ((is a one b other).0 yes), λ are. (is a one b other).1 (same.1 are))) c.are_phases.ensures.answer)

pub returns-in-Phases-clause-have : goal.returns-in-Phases-clause-have
returns-in-Phases-clause-have c =
    rw c.in-Phases.is (IfOk-weaker c.are_phases.result _ _ (λ answer stay a b one other.
    both-stay c.in-Phases.most (most_of_form c.args.store.now) a b (stay a one b other)) c.are_phases.ensures.stay)

pub returns-in-Phases-clause-fault : goal.returns-in-Phases-clause-fault
returns-in-Phases-clause-fault c =
    rw c.in-Phases.is (IfErr-weaker c.are_phases.result _ _ (λ it.
    two-phases-fault c.in-Phases.most (most_of_form c.args.store.now) c.patterns_fit.ensures c.args.store.now c.args.a.now c.args.b.now it.of_second it.fault)
    c.are_phases.ensures.refused)

pub returns-in-Phases-clause-whose : goal.returns-in-Phases-clause-whose
returns-in-Phases-clause-whose c =
    rw c.in-Phases.is (IfErr-weaker c.are_phases.result _ _ (λ it.
    first-to-leave c.in-Phases.most (most_of_form c.args.store.now) c.patterns_fit.ensures c.args.store.now c.args.a.now c.args.b.now it.of_second it.fault)
    c.are_phases.ensures.refused)
