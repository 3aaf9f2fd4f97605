use Rattle.std.proofs.Common.{◌++◌}
use Rattle.std.proofs.lemmas.Result.{err_from_is_err_and}
use Rattle.life_base.proofs.WritingLemmas.{prefix-grows}
use Rattle.file_keys.specs.Objects.{kind_member, line_member, reason_member}
use Rattle.file_keys.proofs.KeyLines.{then_text}
use Rattle.file_keys.proofs.keys.objects.write_fault_members.Goals as goal

pub returns-in_err-write_kind-clause-text : goal.returns-in_err-write_kind-clause-text
returns-in_err-write_kind-clause-text g c =
    let p = err_from_is_err_and c.from_residual.result c.from_residual.ensures.1 in
    rw p.1 (prefix-grows _ _ _ (line_member c.args.line ++ reason_member c.args.reason.now c.args.foreign) c.in_err-write_kind.ensures.text)

pub returns-clause-text : goal.returns-clause-text
returns-clause-text g c =
    then_text _ _ _ (kind_member c.args.kind.now) (line_member c.args.line ++ reason_member c.args.reason.now c.args.foreign) c.write_line_and_reason.result
    c.in_ok-write_kind.ensures.text c.write_line_and_reason.ensures.text
