use Rattle.std.proofs.Common.{◌^◌, inl}
use Rattle.std.proofs.lemmas.Result.{err_from_is_err_and}
use Rattle.life_base.specs.declared.cell.TheConstants.{MAX_LEVEL}
use Rattle.life_writer.specs.Texts.{IsRleOf}
use Rattle.pattern_sources.specs.Sources.{RefusesMany}
use Rattle.pattern_sources.proofs.SourceLemmas.{comes_of_pattern, nothing_comes}
use Rattle.life_cli.proofs.WorkLemmas.{refused_rle}
use Rattle.life_cli.proofs.jobs.rle_of_source.Goals as goal

pub returns-in_err-pattern : goal.returns-in_err-pattern
returns-in_err-pattern g c =
    let p = err_from_is_err_and c.from_residual.result c.from_residual.ensures.1 in
    rw (p.1, p.2) (nothing_comes _ (IsRleOf MAX_LEVEL (2 ^ 20)) RefusesMany _ _ _ _ c.seeded-store.ensures.most c.seeded-store.ensures.stored
    c.pattern_of.ensures.squares (λ bytes refuses. inl refuses)
    c.in_err-pattern.ensures.reads)

pub rle_of-requires : goal.rle_of-requires
rle_of-requires g c = (c.in_ok-pattern.ensures.reads.pattern.bytes, c.in_ok-pattern.ensures.reads.pattern.is)

pub returns : goal.returns
returns g c =
    comes_of_pattern _ (IsRleOf MAX_LEVEL (2 ^ 20)) RefusesMany _ c.pattern_of.new.store c.in_ok-pattern.pattern c.rle_of.result
    c.in_ok-pattern.ensures.reads.pattern c.in_ok-pattern.ensures.reads.works c.rle_of.ensures.text
    (refused_rle _ c.pattern_of.new.store c.in_ok-pattern.pattern c.rle_of.result c.in_ok-pattern.ensures.reads.pattern c.rle_of.ensures.fault)
