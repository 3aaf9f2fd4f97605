use Rattle.std.proofs.lemmas.Result.{err_from_is_err_and}
use Rattle.life_base.specs.declared.cell.TheConstants.{MAX_LEVEL}
use Rattle.life_pattern.specs.Files.{Refuses}
use Rattle.life_writer.specs.Texts.{IsShownText}
use Rattle.pattern_sources.proofs.SourceLemmas.{comes_of_pattern, nothing_comes}
use Rattle.life_cli.proofs.WorkLemmas.{refused_lines}
use Rattle.life_cli.proofs.jobs.five_lines_of_source.Goals as goal

pub returns-in_err-pattern : goal.returns-in_err-pattern
returns-in_err-pattern g c =
    let p = err_from_is_err_and c.from_residual.result c.from_residual.ensures.1 in
    rw (p.1, p.2) (nothing_comes _ (IsShownText MAX_LEVEL) (Refuses MAX_LEVEL) _ _ _ _ c.seeded-store.ensures.most c.seeded-store.ensures.stored
    c.pattern_of.ensures.squares (λ bytes refuses. refuses) c.in_err-pattern.ensures.reads)

pub five_lines_of-requires : goal.five_lines_of-requires
five_lines_of-requires g c = (c.in_ok-pattern.ensures.reads.pattern.bytes, c.in_ok-pattern.ensures.reads.pattern.is)

pub returns : goal.returns
returns g c =
    comes_of_pattern _ (IsShownText MAX_LEVEL) (Refuses MAX_LEVEL) _ c.pattern_of.new.store c.in_ok-pattern.pattern c.five_lines_of.result
    c.in_ok-pattern.ensures.reads.pattern c.in_ok-pattern.ensures.reads.works c.five_lines_of.ensures.text
    (refused_lines _ c.five_lines_of.result c.five_lines_of.ensures.memory)
