use Rattle.std.proofs.Common.{◌∙◌, inl}
use Rattle.std.proofs.lemmas.Result.{err_from_is_err_and}
use Rattle.life_generations.specs.Later.{IsTextLater, LaterRefusal}
use Rattle.life_cli.specs.Jobs.{RefusesGenerations}
use Rattle.pattern_sources.proofs.SourceLemmas.{comes_of_pattern, nothing_comes}
use Rattle.life_cli.proofs.WorkLemmas.{refused_pattern}
use Rattle.life_cli.proofs.later.later_of.Goals as goal

pub returns-in_err-pattern : goal.returns-in_err-pattern
returns-in_err-pattern g c =
    let p = err_from_is_err_and c.from_residual.result c.from_residual.ensures.1 in
    rw (p.1, p.2) (nothing_comes _ (IsTextLater c.args.generations) (RefusesGenerations c.args.generations) _ _ _ _ c.seeded-store.ensures.most
    c.seeded-store.ensures.stored c.pattern_of.ensures.squares (λ bytes refuses. inl refuses) c.in_err-pattern.ensures.reads)

pub later_by_rule-requires : goal.later_by_rule-requires
later_by_rule-requires g c = (c.in_ok-pattern.ensures.reads.pattern.bytes, c.in_ok-pattern.ensures.reads.pattern.is)

pub returns : goal.returns
returns g c =
    comes_of_pattern _ (IsTextLater c.args.generations) (RefusesGenerations c.args.generations) _ c.pattern_of.new.store c.in_ok-pattern.pattern
    c.later_by_rule.result c.in_ok-pattern.ensures.reads.pattern c.in_ok-pattern.ensures.reads.works c.later_by_rule.ensures.later
    (refused_pattern (LaterRefusal c.args.generations) _ _ c.pattern_of.new.store c.later_by_rule.new.store c.in_ok-pattern.pattern
    c.in_ok-pattern.ensures.only
    (c.later_by_rule.ensures.keeps.limit ∙ c.pattern_of.ensures.reads.reads.keeps.limit ∙ c.seeded-store.ensures.most)
    c.later_by_rule.result c.later_by_rule.ensures.refused)
