use Rattle.std.proofs.Common.{[]}
use Rattle.file_keys.specs.Duplicates.{kept_names}
use Rattle.file_keys.specs.Groups.{ended_name, names_text}
use Rattle.file_keys.proofs.KeyLines.{then_text}
use Rattle.file_keys.proofs.duplicates.texts.write_next.Goals as goal

pub returns-clause-text : goal.returns-clause-text
returns-clause-text g c =
    rw c.if-is_first.false (then_text _ _ _ (ended_name c.args.zero []) (names_text c.args.zero (kept_names c.args.group.now))
    c.write_group-2.result c.in_ok-write_name.ensures.text c.write_group-2.ensures.text)
