use Rattle.std.proofs.Common.{◌∙◌, None, codes, subst, sym}
use Rattle.life_base.specs.Writing.{WritesText}
use Rattle.file_keys.specs.Objects.{fault_members, members_text}
use Rattle.file_keys.proofs.keys.objects.write_members.Goals as goal

pub returns-in-Unopened-clause-text : goal.returns-in-Unopened-clause-text
returns-in-Unopened-clause-text g c =
    subst (λ outcome. WritesText (g.W.Sink.contents c.args.out.now) (g.W.Sink.contents c.write_fault_members-in-Unopened.new.out) (members_text outcome)
    c.write_fault_members-in-Unopened.result) (sym c.in-Unopened.is)
    (subst (λ reason. WritesText (g.W.Sink.contents c.args.out.now) (g.W.Sink.contents c.write_fault_members-in-Unopened.new.out)
    (fault_members (codes "ReadFault") 0 reason None) c.write_fault_members-in-Unopened.result) (c.as_bytes-in-Unopened.ensures.value ∙ c.reason.ensures)
    c.write_fault_members-in-Unopened.ensures.text)
