use Rattle.std.proofs.Common.{◌==◌, ◌∷◌, ◌+◌, ◌∙◌, List, ℕ, ap, sym, take}
use Rattle.std.specs.List.{slice_split}
use Rattle.life_table.proofs.Parts.{parts_at, parts_without}
use Rattle.life_base.proofs.LineEnds.{all_behind}
use Rattle.life_table.proofs.words.first_part.Goals as goal

pub returns-in-Some-clause-parts : goal.returns-in-Some-clause-parts
returns-in-Some-clause-parts c =
    let text = c.args.text.now in
    parts_at (λ b. b == 44) text c.in-Some.end (sym c.in-Some.ensures) ∙ ap (λ (t : List ℕ). take c.in-Some.end text ∷ slice_split (λ b. b == 44) t)
    (sym (all_behind text (c.in-Some.end + 1)))

pub returns-in-None-clause-parts : goal.returns-in-None-clause-parts
returns-in-None-clause-parts c = parts_without (λ b. b == 44) c.args.text.now (sym c.in-None.ensures)
