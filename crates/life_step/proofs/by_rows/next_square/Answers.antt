use Rattle.std.proofs.Common.{◌≡◌, ◌++◌, ◌∷◌, [], List, ℕ, ℤ, map, Bor, sym, ◌∙◌, ap, subst, append_assoc, rules, arith}
use Rattle.std.proofs.lemmas.List.{map-append}
use Rattle.std.proofs.lemmas.Grind.{common_steps}
use Rattle.life_base.specs.Lines.{LinesRead}
use Rattle.life_base.specs.Text.{lines_of, numbered_from}
use Rattle.life_base.specs.declared.cell.Run.{Run}
use Rattle.life_base.specs.declared.cell.TheConstants.{MAX_LEVEL}
use Rattle.life_base.proofs.NumberedLines.{texts, numbered, whole_read}
use Rattle.life_base.specs.Sets.{OuterTotalistic}
use Rattle.life_base.specs.Tree.{Tree, tree_cell}
use Rattle.life_base.specs.declared.rule.Rule.{Rule}
use Rattle.life_base.specs.declared.rule.Rule.TheVariants.{Life}
use Rattle.life_quad.proofs.KeepingLemmas.{adds-none, adds-then, keeps-same, keeps-then}
use Rattle.life_rle.specs.Grammar.{IsRle}
use Rattle.life_rle.specs.Pattern.{Rle}
use Rattle.life_rle.proofs.ReadInputs.{no_runs}
use Rattle.life_strip.specs.Given.{state_by}
use Rattle.life_next.specs.Generation.{next_life}
use Rattle.life_pattern.specs.Store.{content}
use Rattle.life_step.proofs.RowFacts.{line-by_rows, next-of-file, ok-of-some, plane-by_rows}
use Rattle.life_step.proofs.by_rows.next_square.Goals as goal

pub loop-line-init : goal.loop-line-init
loop-line-init c =
    let e = c.new-reader.ensures in
    let none : c.new-reader.result.lines ≡ [] = ap (λ (v : LinesRead). v.lines) e in
    record {
      all = first_of (search rules, grind (arith, common_steps));
      consumed = none;
      fresh = ap (λ (v : LinesRead). v.refused) e;
      rule = c.new-step.ensures.rule;
      keeps = keeps-same _;
      adds = adds-none _ _;
      rows = record {
        are = no_runs MAX_LEVEL c.new-reader.result.lines c.new-step.result.runs none c.new-step.ensures.runs;
        stepping = c.new-step.ensures.stepping;
      };
    }

pub loop-line-preserved : goal.loop-line-preserved
loop-line-preserved c =
    let went = c.if-not-take_line.false in
    let pairs : List (ℕ × List ℕ) = map numbered c.loop-line.yielded in
    let one : List (ℕ × Bor (List ℕ)) = (c.in-Some.field-0-0, c.in-Some.line) ∷ [] in
    let line : List ℕ = c.in-Some.line.now in
    let here : List (ℕ × List ℕ) = (c.in-Some.field-0-0, line) ∷ [] in
    let rest : List (ℕ × List ℕ) = c.next.new.self in
    let old : List (List ℕ) = c.loop-line.reader.lines in
    let e = c.take_line.ensures.lines went in
    let all : pairs ++ (c.in-Some.field-0-0, line) ∷ rest ≡ numbered_from 1 (lines_of c.args.bytes.now) =
    ap (λ (t : List (ℕ × List ℕ)). pairs ++ t) (sym c.in-Some.ensures.steps) ∙ c.loop-line.invariant.all in
    let more : map numbered (c.loop-line.yielded ++ one) ≡ pairs ++ here = map-append numbered c.loop-line.yielded one in
    let new : c.take_line.new.reader.lines ≡ old ++ line ∷ [] = ap (λ (v : LinesRead). v.lines) e in
    record {
      all = ap (λ (ps : List (ℕ × List ℕ)). ps ++ rest) more ∙ append_assoc pairs here rest ∙ all;
      consumed = new ∙ ap (λ ls. ls ++ line ∷ []) c.loop-line.invariant.consumed ∙ sym (ap texts more ∙ map-append (λ (p : ℕ × List ℕ). p.1) pairs here);
      fresh = ap (λ (v : LinesRead). v.refused) e;
      rule = c.take_line.ensures.rule went ∙ c.loop-line.invariant.rule;
      keeps = keeps-then c.loop-line.invariant.keeps c.take_line.ensures.keeps;
      adds = adds-then _ c.loop-line.invariant.adds c.take_line.ensures.adds (λ P s. s)
          (line-by_rows c.args.bytes.now old pairs c.in-Some.field-0-0 line rest c.args.rule.now c.loop-line.step.rule c.loop-line.invariant.consumed all
          c.loop-line.invariant.rule);
      rows = c.take_line.ensures.rows went;
    }

pub returns-clause-next : goal.returns-clause-next
returns-clause-next c =
    let loop = c.loop-line.invariant in
    let lines : List (List ℕ) = c.loop-line.reader.lines in
    let runs : List Run = c.loop-line.step.runs in
    let square = c.in_ok-square.ensures in
    let t : Tree = content c.finish.new.squares c.in_ok-square.square in
    let whole = whole_read (lines_of c.args.bytes.now) lines c.loop-line.yielded _ loop.consumed loop.all c.in-None.ensures.steps.0 in
    let P : Rule × ℕ → Type 0 = λ found. (file : Rle) × IsRle MAX_LEVEL lines file × (found.0 ≡ file.rule) × (found.1 ≡ file.position.generation) in
    let reported : P (c.in_ok-found.found, c.in_ok-found.generation) = ok-of-some P _ c.end.result c.in_ok-found.ensures.value c.end.ensures.file in
    let same : c.in_ok-found.found ≡ Life c.args.rule.now = c.same.ensures.0 c.if-not-same.false in
    let next = subst (λ (rule : OuterTotalistic). (x y : ℤ) → tree_cell t x y ≡ next_life rule (state_by runs) x y) loop.rule square.cells in
    next-of-file c.args.bytes.now lines reported.0 runs c.args.rule.now c.finish.new.squares c.in_ok-found.generation c.in_ok-square.square
    whole reported.1 loop.rows.are (sym reported.2 ∙ same) (sym reported.3) square.few square.known square.level next

pub returns-then-not-take_line-clause-keeps : goal.returns-then-not-take_line-clause-keeps
returns-then-not-take_line-clause-keeps c = keeps-then c.loop-line.invariant.keeps c.take_line.ensures.keeps

pub returns-in_err-square-clause-keeps : goal.returns-in_err-square-clause-keeps
returns-in_err-square-clause-keeps c = keeps-then c.loop-line.invariant.keeps c.in_err-square.ensures.keeps

pub returns-clause-keeps : goal.returns-clause-keeps
returns-clause-keeps c = keeps-then c.loop-line.invariant.keeps c.in_ok-square.ensures.keeps

pub returns-then-not-take_line-clause-adds : goal.returns-then-not-take_line-clause-adds
returns-then-not-take_line-clause-adds c =
    let loop = c.loop-line.invariant in
    let pairs : List (ℕ × List ℕ) = map numbered c.loop-line.yielded in
    let all : pairs ++ (c.in-Some.field-0-0, c.in-Some.line.now) ∷ c.next.new.self ≡ numbered_from 1 (lines_of c.args.bytes.now) =
    ap (λ (t : List (ℕ × List ℕ)). pairs ++ t) (sym c.in-Some.ensures.steps) ∙ loop.all in
    adds-then _ loop.adds c.take_line.ensures.adds (λ P s. s)
    (line-by_rows c.args.bytes.now c.loop-line.reader.lines pairs c.in-Some.field-0-0 c.in-Some.line.now c.next.new.self c.args.rule.now
    c.loop-line.step.rule loop.consumed all loop.rule)

pub returns-in_err-square-clause-adds : goal.returns-in_err-square-clause-adds
returns-in_err-square-clause-adds c =
    let loop = c.loop-line.invariant in
    let lines : List (List ℕ) = c.loop-line.reader.lines in
    let whole = whole_read (lines_of c.args.bytes.now) lines c.loop-line.yielded _ loop.consumed loop.all c.in-None.ensures.steps.0 in
    let P : Rule × ℕ → Type 0 = λ found. (file : Rle) × IsRle MAX_LEVEL lines file × (found.0 ≡ file.rule) × (found.1 ≡ file.position.generation) in
    let reported : P (c.in_ok-found.found, c.in_ok-found.generation) = ok-of-some P _ c.end.result c.in_ok-found.ensures.value c.end.ensures.file in
    let same : c.in_ok-found.found ≡ Life c.args.rule.now = c.same.ensures.0 c.if-not-same.false in
    adds-then _ loop.adds c.in_err-square.ensures.adds (λ P s. s)
    (plane-by_rows c.args.bytes.now lines reported.0 c.loop-line.step.runs c.args.rule.now c.loop-line.step.rule whole reported.1 loop.rows.are
    (sym reported.2 ∙ same) loop.rule)

pub returns-clause-adds : goal.returns-clause-adds
returns-clause-adds c =
    let loop = c.loop-line.invariant in
    let lines : List (List ℕ) = c.loop-line.reader.lines in
    let whole = whole_read (lines_of c.args.bytes.now) lines c.loop-line.yielded _ loop.consumed loop.all c.in-None.ensures.steps.0 in
    let P : Rule × ℕ → Type 0 = λ found. (file : Rle) × IsRle MAX_LEVEL lines file × (found.0 ≡ file.rule) × (found.1 ≡ file.position.generation) in
    let reported : P (c.in_ok-found.found, c.in_ok-found.generation) = ok-of-some P _ c.end.result c.in_ok-found.ensures.value c.end.ensures.file in
    let same : c.in_ok-found.found ≡ Life c.args.rule.now = c.same.ensures.0 c.if-not-same.false in
    adds-then _ loop.adds c.in_ok-square.ensures.adds (λ P s. s)
    (plane-by_rows c.args.bytes.now lines reported.0 c.loop-line.step.runs c.args.rule.now c.loop-line.step.rule whole reported.1 loop.rows.are
    (sym reported.2 ∙ same) loop.rule)
