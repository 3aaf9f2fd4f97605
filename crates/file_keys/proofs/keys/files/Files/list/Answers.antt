use Rattle.std.proofs.Common.{ap, refl, option_map}
use Rattle.file_keys.specs.KeyRuns.{by_opening}
use Rattle.file_keys.proofs.KeyRunLemmas.{err_by, list_lacks, list_read}
use Rattle.file_keys.proofs.keys.files.Files.list.Goals as goal

pub returns-in_default-opener-clause-err : goal.returns-in_default-opener-clause-err
returns-in_default-opener-clause-err g c = (
  c.in-Some.name.now,
  ap (option_map (λ word. word.now)) c.in-Some.is,
  by_opening c.in_default-opener.field-0 c.opener.new.self
      (c.origin_of.result, c.origin_of.ensures, rw c.in_default-opener.is at c.opener.ensures) refl,
)

pub returns-clause-ok : goal.returns-clause-ok
returns-clause-ok g c = list_read (goal.F-step g) g.R.Source.remaining g.R.Source.failures _ _ c.args.self.now.opener c.opener.new.self c.in-Ok.opened
    c.list_bytes.new.source _ c.list_bytes.result (ap (option_map (λ word. word.now)) c.in-Some.is)
    (c.origin_of.result, c.origin_of.ensures, rw c.in-Ok.is at c.opener.ensures) c.list_bytes.ensures.ok c.list_bytes.ensures.works

pub returns-clause-err : goal.returns-clause-err
returns-clause-err g c = err_by _ _ c.list_bytes.result (λ kind lacks. (c.in-Some.name.now, ap (option_map (λ word. word.now)) c.in-Some.is, lacks))
    (list_lacks _ _ _ _ _ _ c.in-Ok.opened c.list_bytes.new.source c.list_bytes.result
    (c.origin_of.result, c.origin_of.ensures, rw c.in-Ok.is at c.opener.ensures) c.list_bytes.ensures.err)
