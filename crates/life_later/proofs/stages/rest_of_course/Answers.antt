use Rattle.std.proofs.Common.{inl}
use Rattle.std.proofs.lemmas.Result.{IfErr-weaker, IfOk-weaker}
use Rattle.life_later.proofs.StageLemmas.{course-copied}
use Rattle.life_later.proofs.stages.rest_of_course.Goals as goal

pub returns-in-Ok-clause-low : goal.returns-in-Ok-clause-low
returns-in-Ok-clause-low c =
    IfOk-weaker c.brought_back.result _ _ (λ r same. (course-copied c.args.rule.now c.args.generations _ _ _ same c.in-Ok.ensures.course).low)
    c.brought_back.ensures.square

pub returns-in-Ok-clause-later : goal.returns-in-Ok-clause-later
returns-in-Ok-clause-later c =
    IfOk-weaker c.brought_back.result _ _ (λ r same. (course-copied c.args.rule.now c.args.generations _ _ _ same c.in-Ok.ensures.course).later)
    c.brought_back.ensures.square

pub returns-in-Ok-clause-stays : goal.returns-in-Ok-clause-stays
returns-in-Ok-clause-stays c = IfOk-weaker c.brought_back.result _ _ (λ r same. c.in-Ok.ensures.course.stays) c.brought_back.ensures.square

pub returns-in-Ok-clause-refusals : goal.returns-in-Ok-clause-refusals
returns-in-Ok-clause-refusals c = IfErr-weaker c.brought_back.result _ _ (λ fault h. inl h) c.brought_back.ensures.refusals
