use Rattle.std.proofs.Common.{◌∙◌, ◌++◌, ap, refl, Err}
use Rattle.std.proofs.lemmas.Result.{err_from_is_err_and}
use Rattle.sha2.specs.Sha256.{sha256}
use Rattle.life_base.specs.declared.fault.Fault.{Fault}
use Rattle.file_keys.proofs.KeyLemmas.{none_placed, placed_comes}
use Rattle.pattern_sources.proofs.SourceLemmas.{too_small_alone}
use Rattle.file_keys.proofs.keys.placed_key.Goals as goal

pub returns : goal.returns
returns g c =
    let ran = c.in_ok-write_canonical.ensures.runs.ok in
    placed_comes _ ran.text _ (record { bytes = ran.bytes; read = ran.read; is = ran.canonical }) c.in_ok-write_canonical.ensures.runs.reads.reported
    (c.key.ensures ∙ ap sha256 (ran.written ∙ ap (λ reported. reported ++ ran.text) c.new-sink.ensures))

pub returns-in_err-write_canonical : goal.returns-in_err-write_canonical
returns-in_err-write_canonical g c =
    let p = err_from_is_err_and c.from_residual.result c.from_residual.ensures.1 in
    let reads = c.in_err-write_canonical.ensures.runs.reads in
    let limit = reads.keeps.limit ∙ c.seeded-store.ensures.most in
    rw (p.1, p.2) (none_placed _ _ c.write_canonical.new.store _ limit refl refl c.in_err-write_canonical.ensures.runs.err
    (λ full. too_small_alone _ _ _ _ reads c.write_canonical.ensures.squares c.seeded-store.ensures.stored (ap (λ (f : Fault). Err f) full)) reads.reported)
