use Rattle.std.proofs.Common.{◌+◌, sym, ap, ◌∙◌}
use Rattle.life_base.specs.Text.{lines_of}
use Rattle.life_base.proofs.LineEnds.{all_behind}
use Rattle.file_hints.proofs.FirstLines.{behind_at, behind_without}
use Rattle.file_hints.proofs.recognizing.after_first_line.Goals as goal

pub returns-in-Some-clause-lines : goal.returns-in-Some-clause-lines
returns-in-Some-clause-lines c =
    ap lines_of (all_behind c.args.text.now (c.in-Some.end + 1)) ∙ behind_at c.args.text.now c.in-Some.end (sym c.in-Some.ensures)

pub returns-in-None-clause-lines : goal.returns-in-None-clause-lines
returns-in-None-clause-lines c = behind_without c.args.text.now (sym c.in-None.ensures)
