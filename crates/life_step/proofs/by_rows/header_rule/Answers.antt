use Rattle.std.proofs.Common.{◌≡◌, ◌++◌, ◌∷◌, [], List, ℕ, map, sym, ◌∙◌, ap, append_assoc}
use Rattle.std.proofs.lemmas.List.{map-append}
use Rattle.life_base.specs.Lines.{LinesRead}
use Rattle.life_base.specs.declared.cell.TheConstants.{MAX_LEVEL}
use Rattle.life_base.specs.declared.rule.Rule.{Rule}
use Rattle.life_base.proofs.NumberedLines.{numbered}
use Rattle.life_rle.specs.Grammar.{IsRle}
use Rattle.life_rle.specs.Pattern.{Rle}
use Rattle.life_step.proofs.RowFacts.{header-of, ok-of-some, on-some}
use Rattle.life_step.proofs.by_rows.header_rule.Goals as goal
use Rattle.life_step.proofs.by_rows.header_rule.Goals.{in-None, in-Some+in_ok-ok+then-not-is_blank+then-not-begins_with}

pub returns : goal.returns
returns c =
    let loop = c.loop-line.invariant in
    let pairs : List (ℕ × List ℕ) = map numbered c.loop-line.yielded in
    let lines : List (List ℕ) = c.match-next.reader.lines in
    let P : Rule × ℕ → Type 0 = λ found. (file : Rle) × IsRle MAX_LEVEL lines file × (found.0 ≡ file.rule) × (found.1 ≡ file.position.generation) in
    let reported : P (c.in_ok-rule.rule, c.in_ok-rule.field-0-1) =
    ok-of-some P _ c.end.result (sym c.in_ok-rule.was ∙ c.ok-2.ensures.value) c.end.ensures.file in
    elim c.match-next.branch [
      | in-None w ↦
          header-of c.args.bytes.now lines pairs c.loop-line.line-iterator reported.0 c.in_ok-rule.rule
          (ap (λ (v : LinesRead). v.lines) w.reader-is ∙ loop.consumed) loop.all reported.1 reported.2
      | in-Some+in_ok-ok+then-not-is_blank+then-not-begins_with w ↦
          (let line : List ℕ = w.in-Some.line.now in
          let rest : List (ℕ × List ℕ) = c.next.new.self in
          let one : List (ℕ × List ℕ) = (w.in-Some.field-0-0, line) ∷ [] in
          let read = on-some _ w.in_ok-ok.field-0 w.line_into.result (sym w.in_ok-ok.was ∙ w.ok.ensures.value) w.line_into.ensures.lines in
          let more : lines ≡ c.loop-line.reader.lines ++ line ∷ [] = ap (λ (v : LinesRead). v.lines) (w.reader-is ∙ read) in
          header-of c.args.bytes.now lines (pairs ++ one) rest reported.0 c.in_ok-rule.rule
          (more ∙ ap (λ (ls : List (List ℕ)). ls ++ line ∷ []) loop.consumed ∙ sym (map-append (λ (p : ℕ × List ℕ). p.1) pairs one))
          (append_assoc pairs one rest ∙ ap (λ (t : List (ℕ × List ℕ)). pairs ++ t) (sym w.in-Some.ensures.steps) ∙ loop.all) reported.1 reported.2)
    ]
