use Rattle.std.proofs.Common.{◌∙◌, Some, inl}
use Rattle.std.proofs.lemmas.Result.{err_from_is_err_and}
use Rattle.life_base.specs.declared.cell.TheConstants.{MAX_LEVEL}
use Rattle.life_pattern.specs.Files.{Reads}
use Rattle.life_pattern.specs.Universe.{Universe}
use Rattle.life_step.specs.Refusals.{LifeRefusal, SomeByRule}
use Rattle.life_step.specs.Stepped.{IsStepped}
use Rattle.life_cli.specs.Jobs.{RefusesLifeStep}
use Rattle.pattern_sources.proofs.SourceLemmas.{comes_of_pattern, nothing_comes}
use Rattle.life_cli.proofs.WorkLemmas.{refused_step}
use Rattle.life_cli.proofs.steps.next_of.Goals as goal

pub returns-in_err-pattern : goal.returns-in_err-pattern
returns-in_err-pattern g c =
    let p = err_from_is_err_and c.from_residual.result c.from_residual.ensures.1 in
    rw (p.1, p.2) (nothing_comes _ IsStepped RefusesLifeStep _ _ _ _ c.seeded-store.ensures.most c.seeded-store.ensures.stored
    c.pattern_of.ensures.squares (λ bytes refuses. inl refuses) c.in_err-pattern.ensures.reads)

pub next_by_rule-text-requires : goal.next_by_rule-text-requires
next_by_rule-text-requires g c = (c.in_ok-pattern.ensures.reads.pattern.bytes, c.in_ok-pattern.ensures.reads.pattern.is)

pub returns : goal.returns
returns g c =
    comes_of_pattern _ IsStepped RefusesLifeStep _ c.pattern_of.new.store c.in_ok-pattern.pattern c.next_by_rule-text.result
    c.in_ok-pattern.ensures.reads.pattern c.in_ok-pattern.ensures.reads.works c.next_by_rule-text.ensures.stepped
    (refused_step SomeByRule (λ bytes fault. (u : Universe) × Reads MAX_LEVEL bytes u × LifeRefusal MAX_LEVEL u (Some fault)) _ _ c.pattern_of.new.store
    c.next_by_rule-text.new.store c.in_ok-pattern.pattern c.seeded-store.ensures.stored c.in_ok-pattern.ensures.only
    (c.next_by_rule-text.ensures.keeps.limit ∙ c.pattern_of.ensures.reads.reads.keeps.limit ∙ c.seeded-store.ensures.most)
    c.len.ensures.distinct (λ t there. (c.len.ensures.only t there).0) c.next_by_rule-text.ensures.adds
    c.next_by_rule-text.result c.next_by_rule-text.ensures.refused c.next_by_rule-text.ensures.needed)
