use Rattle.std.proofs.Common.{map}
use Rattle.file_keys.specs.Groups.{ended_name, names_text}
use Rattle.file_keys.proofs.KeyLines.{then_text}
use Rattle.file_keys.proofs.duplicates.texts.write_group.Goals as goal

pub returns-clause-text : goal.returns-clause-text
returns-clause-text g c =
    rw c.as_slice.ensures.value at (then_text _ _ _ (ended_name c.args.zero c.args.group.now.first.now)
    (names_text c.args.zero (map (λ name. name.now) c.as_slice.result.now)) c.write_names.result c.in_ok-write_name.ensures.text
    c.write_names.ensures.text)
