use Rattle.std.proofs.Common.{List, ℕ, ap, ◌∙◌, codes}
use Rattle.life_base.specs.Text.{begins_with}
use Rattle.life_base.proofs.LineEnds.{all_behind}
use Rattle.file_hints.proofs.FirstLines.{too_short}
use Rattle.file_hints.proofs.recognizing.is_tar.Goals as goal

pub returns-then-head-lt257 : goal.returns-then-head-lt257
returns-then-head-lt257 c = too_short c.args.head.now c.if-head-lt257.true

pub returns : goal.returns
returns c = c.begins_with.ensures ∙ ap (λ (t : List ℕ). begins_with t (codes "ustar")) (all_behind c.args.head.now 257)
