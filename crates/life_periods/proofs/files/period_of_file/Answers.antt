use Rattle.std.proofs.lemmas.Result.{IfErr-weaker, IfOk-weaker}
use Rattle.life_periods.proofs.FileFacts.{file-refused}
use Rattle.life_periods.proofs.files.period_of_file.Goals as goal

pub period_of_pattern-requires : goal.period_of_pattern-requires
period_of_pattern-requires c = (c.args.bytes.now, c.in_ok-pattern.ensures.pattern)

pub returns-clause-period : goal.returns-clause-period
returns-clause-period c =
    IfOk-weaker c.period_of_pattern.result _ _ (λ answer h. h c.args.bytes.now c.in_ok-pattern.ensures.pattern) c.period_of_pattern.ensures.period

pub returns-clause-refused : goal.returns-clause-refused
returns-clause-refused c =
    IfErr-weaker c.period_of_pattern.result _ _
    (λ fault h. file-refused c.args.most c.args.bytes.now _ _ c.in_ok-pattern.ensures.pattern fault h) c.period_of_pattern.ensures.refused
