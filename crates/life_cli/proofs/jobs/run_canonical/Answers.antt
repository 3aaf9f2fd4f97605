use Rattle.std.proofs.Common.{◌∙◌, ap, refl, Err}
use Rattle.std.proofs.lemmas.Result.{err_from_is_err_and}
use Rattle.life_base.specs.declared.fault.Fault.{Fault}
use Rattle.pattern_sources.proofs.SourceLemmas.{too_small_alone}
use Rattle.life_cli.proofs.jobs.run_canonical.Goals as goal

pub returns-in_err-write_canonical-clause-unwritten : goal.returns-in_err-write_canonical-clause-unwritten
returns-in_err-write_canonical-clause-unwritten g c =
    let p = err_from_is_err_and c.from_residual.result c.from_residual.ensures.1 in
    rw (p.1, p.2) c.in_err-write_canonical.ensures.unwritten

pub returns-in_err-write_canonical-clause-refused : goal.returns-in_err-write_canonical-clause-refused
returns-in_err-write_canonical-clause-refused g c =
    let p = err_from_is_err_and c.from_residual.result c.from_residual.ensures.1 in
    let reads = c.in_err-write_canonical.ensures.runs.reads in
    let limit = reads.keeps.limit ∙ c.seeded-store.ensures.most in
    rw (p.1, p.2) (
      refl,
      (
        c.write_canonical.new.store,
        limit,
        c.in_err-write_canonical.ensures.runs.err,
        λ full. too_small_alone _ _ _ _ reads c.write_canonical.ensures.squares c.seeded-store.ensures.stored (ap (λ (f : Fault). Err f) full),
      ),
    )
