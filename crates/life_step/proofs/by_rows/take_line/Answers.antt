use Rattle.std.proofs.Common.{◌≡◌, ℕ, List, [], ◌∷◌, ◌++◌, sym, ap, ◌∙◌, subst}
use Rattle.life_base.specs.declared.cell.Run.{Run}
use Rattle.life_base.specs.declared.cell.TheConstants.{MAX_LEVEL}
use Rattle.life_rle.specs.File.{HasRuns}
use Rattle.life_strip.specs.Given.{AreNext}
use Rattle.life_rows.specs.Needed.{SomeNextOfRuns}
use Rattle.life_quad.proofs.KeepingLemmas.{adds-as}
use Rattle.life_base.specs.Lines.{LinesRead}
use Rattle.life_reader.proofs.BuildFacts.{lines-next}
use Rattle.life_step.proofs.by_rows.take_line.Goals as goal

pub add_runs-requires-clause-next : goal.add_runs-requires-clause-next
add_runs-requires-clause-next c =
    let rows = c.requires.rows in
    let added = c.in-Ok.ensures.runs in
    let all : c.deref.result.now ≡ added.runs = c.deref.ensures.value ∙ added.added ∙ ap (λ (l : List Run). l ++ added.runs) c.clear.ensures.items in
    subst (AreNext c.args.step.now.runs) (sym all)
    (lines-next c.line_into.new.self.lines c.args.step.now.runs added.runs (added.found c.args.step.now.runs rows.are))

pub returns-in-Ok-clause-rows : goal.returns-in-Ok-clause-rows
returns-in-Ok-clause-rows c is =
    let rows = c.requires.rows in
    let added = c.in-Ok.ensures.runs in
    let all : c.deref.result.now ≡ added.runs = c.deref.ensures.value ∙ added.added ∙ ap (λ (l : List Run). l ++ added.runs) c.clear.ensures.items in
    record {
      are = subst (HasRuns MAX_LEVEL c.line_into.new.self.lines) (sym (c.add_runs.ensures.runs is ∙ ap (λ (l : List Run). c.args.step.now.runs ++ l) all))
          (added.found c.args.step.now.runs rows.are);
      stepping = c.add_runs.ensures.stepping is;
    }

pub returns-in-Ok-clause-adds : goal.returns-in-Ok-clause-adds
returns-in-Ok-clause-adds c =
    let rows = c.requires.rows in
    let before : List Run = c.args.step.now.runs in
    let added = c.in-Ok.ensures.runs in
    let all : c.deref.result.now ≡ added.runs = c.deref.ensures.value ∙ added.added ∙ ap (λ (l : List Run). l ++ added.runs) c.clear.ensures.items in
    let lines : c.line_into.new.self.lines ≡ c.args.reader.now.lines ++ c.args.line.now ∷ [] = ap (λ (v : LinesRead). v.lines) c.in-Ok.ensures.lines in
    adds-as _ c.add_runs.ensures.adds
    (λ P s. record {
      runs = before ++ added.runs;
      are = subst (λ (ls : List (List ℕ)). HasRuns MAX_LEVEL ls (before ++ added.runs)) lines (added.found before rows.are);
      square = subst (λ (more : List Run). SomeNextOfRuns P c.args.step.now.rule (before ++ more)) all s;
    })
