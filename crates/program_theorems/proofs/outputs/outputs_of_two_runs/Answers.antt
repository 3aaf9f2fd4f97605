use Rattle.program_theorems.proofs.AnswerLaw.{given_second, equal_outputs, form_outputs, shown_outputs, two_written}
use Rattle.program_theorems.proofs.outputs.outputs_of_two_runs.Goals as goal

pub work_seeded-status-requires-clause-second_given : goal.work_seeded-status-requires-clause-second_given
work_seeded-status-requires-clause-second_given g c = given_second c.args.one.now.task c.requires.given.second_given

pub work_seeded-other-requires-clause-second_given : goal.work_seeded-other-requires-clause-second_given
work_seeded-other-requires-clause-second_given g c = given_second c.args.two.now.task c.requires.other_given.second_given

pub returns-clause-equal : goal.returns-clause-equal
returns-clause-equal g c = λ held kept e f few other_few w v.
    let one = c.work_seeded-status.ensures.done few in
    let two = c.work_seeded-other.ensures.done other_few in
    two_written _ _ _ _ held kept one.text two.text one.written two.written e f
    (equal_outputs c.layers_agree.ensures c.args.one.now.task c.args.two.now.task _ _ _ _ _ _ one.text two.text one.answer two.answer w v)

pub returns-clause-forms : goal.returns-clause-forms
returns-clause-forms g c = λ form file other_file held kept e f few other_few is other_is r s.
    let one = c.work_seeded-status.ensures.done few in
    let two = c.work_seeded-other.ensures.done other_few in
    two_written _ _ _ _ held kept one.text two.text one.written two.written e f
    (form_outputs c.layers_agree.ensures form c.args.one.now.task c.args.two.now.task _ _ _ _ _ _ one.text two.text file other_file one.answer two.answer is
    other_is r s)

pub returns-clause-shown : goal.returns-clause-shown
returns-clause-shown g c = λ file held kept e f few other_few is other_is r s.
    let one = c.work_seeded-status.ensures.done few in
    let two = c.work_seeded-other.ensures.done other_few in
    two_written _ _ _ _ held kept one.text two.text one.written two.written e f
    (shown_outputs c.layers_agree.ensures c.args.one.now.task c.args.two.now.task _ _ _ _ _ _ one.text two.text file one.answer two.answer is other_is r s)
