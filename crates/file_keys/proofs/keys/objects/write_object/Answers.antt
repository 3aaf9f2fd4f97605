use Rattle.std.proofs.lemmas.Result.{err_from_is_err_and}
use Rattle.life_base.proofs.WritingLemmas.{prefix-grows}
use Rattle.file_keys.specs.Objects.{members_text, object_head}
use Rattle.file_keys.proofs.KeyLines.{then_text}
use Rattle.file_keys.proofs.keys.objects.write_object.Goals as goal

pub returns-in_err-write_head-clause-text : goal.returns-in_err-write_head-clause-text
returns-in_err-write_head-clause-text g c =
    let p = err_from_is_err_and c.from_residual.result c.from_residual.ensures.1 in
    rw p.1 (prefix-grows _ _ _ (members_text c.args.outcome.now) c.in_err-write_head.ensures.text)

pub returns-clause-text : goal.returns-clause-text
returns-clause-text g c =
    then_text _ _ _ (object_head c.args.name.now) (members_text c.args.outcome.now) c.write_members.result
    c.in_ok-write_head.ensures.text c.write_members.ensures.text
