use Rattle.std.proofs.Common.{◌≡◌, List, [], ◌∷◌, ◌++◌, sym, ap, ◌∙◌, subst}
use Rattle.life_base.proofs.Results.{error_is}
use Rattle.life_base.specs.Lines.{LinesRead}
use Rattle.life_base.specs.Tree.{Tree}
use Rattle.life_base.specs.declared.cell.TheConstants.{MAX_LEVEL}
use Rattle.life_base.specs.declared.kind.Kind.{Kind}
use Rattle.life_rle.specs.File.{HasRuns}
use Rattle.life_rle.specs.Grammar.{BreaksRle}
use Rattle.life_base.specs.declared.cell.Run.{Run}
use Rattle.life_quad.proofs.KeepingLemmas.{keeps-same, adds-none, adds-as}
use Rattle.life_strip.specs.Given.{AreNext}
use Rattle.life_reader.proofs.BuildFacts.{lines-next}
use Rattle.life_reader.proofs.PatternFacts.{both-ok, not-full-rle, reported-fault}
use Rattle.life_reader.specs.Needs.{SomeOfLines, SomeOfRuns}
use Rattle.life_reader.proofs.NeedFacts.{line-runs}
use Rattle.life_reader.proofs.progress.take_rle_line.Goals as goal

pub returns-in_err-line_into-clause-fault : goal.returns-in_err-line_into-clause-fault
returns-in_err-line_into-clause-fault g c =
    let kind : Kind = c.in_err-line_into.field-0.0 in
    rw (error_is c.from_residual.result c.from_residual.ensures.1)
    (reported-fault _ _ (BreaksRle MAX_LEVEL c.args.lines.now.lines c.args.line.now kind) c.args.lines.now.refused kind c.requires.begun
    c.in_err-line_into.ensures.fault
    (λ e. c.in_err-line_into.ensures.spent.0 (cc)))

pub add_runs-requires-clause-next : goal.add_runs-requires-clause-next
add_runs-requires-clause-next g c =
    let built = c.requires.built in
    let added = c.in_ok-line_into.ensures.runs in
    let all : c.deref.result.now ≡ added.runs = c.deref.ensures.value ∙ added.added ∙ ap (λ (l : List Run). l ++ added.runs) c.clear.ensures.items in
    subst (AreNext c.args.builder.now.runs) (sym all)
    (lines-next c.line_into.new.self.lines c.args.builder.now.runs added.runs (added.found c.args.builder.now.runs built.are))

pub returns-clause-built : goal.returns-clause-built
returns-clause-built g c =
    let built = c.requires.built in
    let added = c.in_ok-line_into.ensures.runs in
    let all : c.deref.result.now ≡ added.runs = c.deref.ensures.value ∙ added.added ∙ ap (λ (l : List Run). l ++ added.runs) c.clear.ensures.items in
    both-ok c.add_runs.result c.add_runs.ensures.filling c.add_runs.ensures.runs (λ filling runs. record {
      are = subst (HasRuns MAX_LEVEL c.line_into.new.self.lines) (sym (runs ∙ ap (λ (l : List Run). c.args.builder.now.runs ++ l) all))
          (added.found c.args.builder.now.runs built.are);
      filling = filling;
    })

pub returns-in_err-line_into-clause-stores : goal.returns-in_err-line_into-clause-stores
returns-in_err-line_into-clause-stores g c =
    let kind : Kind = c.in_err-line_into.field-0.0 in
    rw (error_is c.from_residual.result c.from_residual.ensures.1) (record {
      needed = λ e. absurd (not-full-rle c.args.lines.now.lines c.args.line.now kind c.in_err-line_into.ensures.fault (cc));
      adds = adds-none _ _;
      keeps = keeps-same _;
    })

pub returns-clause-stores : goal.returns-clause-stores
returns-clause-stores g c =
    let built = c.requires.built in
    let added = c.in_ok-line_into.ensures.runs in
    let all : c.deref.result.now ≡ added.runs = c.deref.ensures.value ∙ added.added ∙ ap (λ (l : List Run). l ++ added.runs) c.clear.ensures.items in
    let more : c.line_into.new.self.lines ≡ c.args.lines.now.lines ++ c.args.line.now ∷ [] = ap (λ (v : LinesRead). v.lines) c.in_ok-line_into.ensures.lines in
    let Needs : (Tree → Type 0) → Type 0 = λ P. SomeOfRuns P (c.args.builder.now.runs ++ c.deref.result.now) in
    let line : (P : Tree → Type 0) → Needs P → SomeOfLines MAX_LEVEL P (c.args.lines.now.lines ++ c.args.line.now ∷ []) =
    λ P s. subst (SomeOfLines MAX_LEVEL P) more
    (line-runs P c.line_into.new.self.lines (c.args.builder.now.runs ++ added.runs) (added.found c.args.builder.now.runs built.are)
    (subst (λ (l : List Run). SomeOfRuns P (c.args.builder.now.runs ++ l)) all s)) in
    let grows = c.add_runs.ensures.grows in
    record {
      needed = λ e. line (g.S.Squares.needs_node c.add_runs.new.squares) (grows.needed e);
      adds = adds-as _ grows.adds line;
      keeps = grows.keeps;
    }
