use Rattle.std.proofs.Common.{inl}
use Rattle.std.proofs.lemmas.Result.{err_from_is_err_and}
use Rattle.life_periods.specs.OfFile.{IsShownWithPeriod, RefusesPeriodOfFile}
use Rattle.pattern_sources.proofs.SourceLemmas.{comes_of_pattern, nothing_comes}
use Rattle.life_cli.proofs.WorkLemmas.{refused_period}
use Rattle.life_cli.proofs.periods.lines_with_period_of.Goals as goal

pub returns-in_err-pattern : goal.returns-in_err-pattern
returns-in_err-pattern g c =
    let p = err_from_is_err_and c.from_residual.result c.from_residual.ensures.1 in
    rw (p.1, p.2) (nothing_comes _ (IsShownWithPeriod c.args.most) (RefusesPeriodOfFile c.args.most) _ _ _ _ c.seeded-store.ensures.most
    c.seeded-store.ensures.stored c.pattern_of.ensures.squares (λ bytes refuses. inl refuses) c.in_err-pattern.ensures.reads)

pub show_with_period-requires : goal.show_with_period-requires
show_with_period-requires g c = (c.in_ok-pattern.ensures.reads.pattern.bytes, c.in_ok-pattern.ensures.reads.pattern.is)

pub returns : goal.returns
returns g c =
    comes_of_pattern _ (IsShownWithPeriod c.args.most) (RefusesPeriodOfFile c.args.most) _ c.pattern_of.new.store c.in_ok-pattern.pattern
    c.show_with_period.result c.in_ok-pattern.ensures.reads.pattern c.in_ok-pattern.ensures.reads.works c.show_with_period.ensures.text
    (refused_period c.args.most _ c.pattern_of.new.store c.in_ok-pattern.pattern c.show_with_period.result c.in_ok-pattern.ensures.reads.pattern
    c.show_with_period.ensures.refused)
