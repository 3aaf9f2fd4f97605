use Rattle.std.proofs.Common.{◌++◌, codes}
use Rattle.file_hints.specs.Warnings.{warning_sentence}
use Rattle.file_keys.specs.Keys.{escaped_name}
use Rattle.file_keys.proofs.KeyLines.{then_text}
use Rattle.file_keys.proofs.keys.lines.write_warning.Goals as goal

pub returns-clause-text : goal.returns-clause-text
returns-clause-text g c =
    then_text _ _ _ (escaped_name c.args.name.now) (codes ": warning: " ++ (warning_sentence c.args.warning ++ codes "\n"))
    c.write_sentence.result c.in_ok-write_escaped.ensures.text c.write_sentence.ensures.text
