use Rattle.std.proofs.Common.{◌≡◌, ◌++◌, List, sym, ap, ◌∙◌, subst}
use Rattle.life_base.specs.declared.cell.TheConstants.{MAX_LEVEL}
use Rattle.life_base.specs.declared.cell.Run.{Run}
use Rattle.life_rle.specs.File.{HasRuns}
use Rattle.life_rle.proofs.lines.RleLines.line.Goals as goal

pub returns-clause-runs : goal.returns-clause-runs
returns-clause-runs c = λ before h.
    let adds = c.in_ok-line_into.ensures.runs in
    let found : List Run = c.line_into.new.runs.items in
    let e : found ≡ adds.runs = adds.added ∙ ap (λ (rs : List Run). rs ++ adds.runs) c.new-runs.ensures.items in
    subst (λ (rs : List Run). HasRuns MAX_LEVEL c.line_into.new.self.lines (before ++ rs)) (sym e) (adds.found before h)
