use Rattle.std.proofs.Common.{codes}
use Rattle.file_keys.specs.Keys.{escaped_name}
use Rattle.file_keys.proofs.KeyLines.{then_text}
use Rattle.file_keys.proofs.keys.lines.write_name.Goals as goal

pub returns-clause-text : goal.returns-clause-text
returns-clause-text g c =
    then_text _ _ _ (escaped_name c.args.name.now) (codes ": ") c.write_text.result c.in_ok-write_escaped.ensures.text c.write_text.ensures.text
