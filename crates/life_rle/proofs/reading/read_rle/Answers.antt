use Rattle.std.proofs.Common.{◌≡◌, ◌⊎◌, ◌++◌, ◌∷◌, [], ◌+◌, true, false, List, ℕ, map, length, Bor, Err, sym, ◌∙◌, ap, subst, inl, inr, append_assoc, arith, rules, length-append}
use Rattle.std.proofs.lemmas.List.{map-append}
use Rattle.std.proofs.lemmas.Grind.{common_steps}
use Rattle.life_base.proofs.Results.{error_is}
use Rattle.life_base.specs.Text.{lines_of, numbered_from}
use Rattle.life_base.specs.Refusal.{OrMemory, fault_at}
use Rattle.life_base.specs.declared.fault.Fault.{Fault}
use Rattle.life_base.specs.declared.kind.Kind.{Kind}
use Rattle.life_base.specs.declared.kind.Kind.TheVariants.{NoHeader, Spent}
use Rattle.life_base.specs.declared.cell.TheConstants.{MAX_LEVEL}
use Rattle.life_base.proofs.NumberedLines.{texts, numbered, whole_read, number_at, length_texts}
use Rattle.life_rle.specs.declared.file.RleFile.{RleFile}
use Rattle.life_rle.specs.declared.position.Position.{Position}
use Rattle.life_base.specs.Lines.{LinesRead}
use Rattle.life_rle.specs.File.{Shows, HasRuns, RefusesRle}
use Rattle.life_rle.specs.Grammar.{IsRle, BreaksRle, is_rle_kind}
use Rattle.life_rle.specs.Pattern.{Rle}
use Rattle.life_rle.proofs.Advance.{known-runs}
use Rattle.life_rle.proofs.LineKinds.{Breaks-kind}
use Rattle.life_rle.proofs.PlainFiles.{files_are_plain}
use Rattle.life_rle.proofs.ReadInputs.{no_runs, refused_here, refused_at_end}
use Rattle.life_rle.proofs.reading.read_rle.Goals as goal

pub returns-in_err-take_numbered-clause-fault : goal.returns-in_err-take_numbered-clause-fault
returns-in_err-take_numbered-clause-fault c =
    let pairs : List (ℕ × List ℕ) = map numbered c.loop-number.yielded in
    let lines : List (List ℕ) = lines_of c.args.bytes.now in
    let prefix : List (List ℕ) = c.loop-number.reader.lines in
    let fault : Fault = c.in_err-take_numbered.field-0.0 in
    let reported : OrMemory fault (BreaksRle MAX_LEVEL prefix c.in-Some.line.now fault.kind × (fault.place.line ≡ c.in-Some.number))
    = c.in_err-take_numbered.ensures.fault in
    let all : pairs ++ (c.in-Some.number, c.in-Some.line.now) ∷ c.next.new.self
    ≡ numbered_from 1 lines =
    ap (λ (t : List (ℕ × List ℕ)). pairs ++ t) (sym c.in-Some.ensures.steps) ∙ c.loop-number.invariant.all in
    let answer : OrMemory fault (RefusesRle MAX_LEVEL lines fault) = elim reported [
      | inl m ↦ inl m
      | inr w ↦ inr (refused_here MAX_LEVEL lines pairs c.in-Some.number c.in-Some.line.now _ prefix fault all c.loop-number.invariant.consumed w.0 w.1)
    ] in
    rw (error_is c.from_residual.result c.from_residual.ensures.1) answer

pub returns-in_err-take_numbered-clause-kinds : goal.returns-in_err-take_numbered-clause-kinds
returns-in_err-take_numbered-clause-kinds c =
    let prefix : List (List ℕ) = c.loop-number.reader.lines in
    let fault : Fault = c.in_err-take_numbered.field-0.0 in
    let reported : OrMemory fault (BreaksRle MAX_LEVEL prefix c.in-Some.line.now fault.kind × (fault.place.line ≡ c.in-Some.number))
    = c.in_err-take_numbered.ensures.fault in
    let answer : OrMemory fault (is_rle_kind fault.kind ≡ true) = elim reported
    [ inl m ↦ inl m | inr w ↦ inr (Breaks-kind MAX_LEVEL prefix c.in-Some.line.now fault.kind w.0) ] in
    rw (error_is c.from_residual.result c.from_residual.ensures.1) answer

pub returns-in-Err-clause-kinds : goal.returns-in-Err-clause-kinds
returns-in-Err-clause-kinds c =
    let kind : Kind = c.in-Err.kind in
    let e : c.at.result ≡ fault_at c.saturating_add.result kind = c.at.ensures in
    let same : c.at.result.kind ≡ kind = ap (λ (f : Fault). f.kind) e in
    let only : (kind ≡ NoHeader) ⊎ (kind ≡ Spent) = c.in-Err.ensures.only in
    let answer : OrMemory c.at.result (is_rle_kind c.at.result.kind ≡ true) = elim only [
      | inl m ↦ inr (ap is_rle_kind (same ∙ m))
      | inr s ↦ (let refused : c.loop-number.reader.refused ≡ true = c.in-Err.ensures.spent.0 (ap Err s) in
          let fresh : c.loop-number.reader.refused ≡ false = c.loop-number.invariant.fresh in cc)
    ] in
    answer

pub returns-in-Ok-clause-file : goal.returns-in-Ok-clause-file
returns-in-Ok-clause-file c =
    let lines : List (List ℕ) = lines_of c.args.bytes.now in
    let loop = c.loop-number.invariant in
    let whole = whole_read lines c.loop-number.reader.lines c.loop-number.yielded _ loop.consumed loop.all c.in-None.ensures.steps.0 in
    let reported = c.in-Ok.ensures.file in
    let file : Rle = reported.0 in
    let is : IsRle MAX_LEVEL lines file = subst (λ ls. IsRle MAX_LEVEL ls file) whole reported.1 in
    let runs : HasRuns MAX_LEVEL lines c.loop-number.runs.items = subst (λ ls. HasRuns MAX_LEVEL ls c.loop-number.runs.items) whole
    c.loop-number.invariant.found in (
      file,
      (files_are_plain MAX_LEVEL lines file).0 is,
      subst (λ (v : RleFile). Shows v file) (sym c.file_of.ensures) (record {
        rule = reported.2;
        generation = ap (λ (p : Position). p.generation) reported.3;
        x = ap (λ (p : Position). p.x) reported.3;
        y = ap (λ (p : Position). p.y) reported.3;
        runs = known-runs MAX_LEVEL lines file c.loop-number.runs.items is runs;
      }),
    )

pub returns-in-Err-clause-fault : goal.returns-in-Err-clause-fault
returns-in-Err-clause-fault c =
    let lines : List (List ℕ) = lines_of c.args.bytes.now in
    let loop = c.loop-number.invariant in
    let whole = whole_read lines c.loop-number.reader.lines c.loop-number.yielded _ loop.consumed loop.all c.in-None.ensures.steps.0 in
    let kind : Kind = c.in-Err.kind in
    let number : ℕ = c.saturating_add.result in
    let e : c.at.result ≡ fault_at number kind = c.at.ensures in
    let only : (kind ≡ NoHeader) ⊎ (kind ≡ Spent) = c.in-Err.ensures.only in
    let answer : OrMemory c.at.result (RefusesRle MAX_LEVEL lines c.at.result) = elim only [
      | inl m ↦ (let pre = c.in-Err.ensures.missing (ap Err m) in
          inr (subst (RefusesRle MAX_LEVEL lines) (sym e)
          (refused_at_end MAX_LEVEL lines c.loop-number.reader.lines pre.0 number c.loop-number.last kind
          whole pre.1 m c.loop-number.invariant.counted c.saturating_add.ensures)))
      | inr s ↦ (let refused : c.loop-number.reader.refused ≡ true = c.in-Err.ensures.spent.0 (ap Err s) in
          let fresh : c.loop-number.reader.refused ≡ false = c.loop-number.invariant.fresh in cc)
    ] in
    answer

pub loop-number-init : goal.loop-number-init
loop-number-init c =
    let e = c.new-reader.ensures in
    let none : c.new-reader.result.lines ≡ [] = ap (λ (v : LinesRead). v.lines) e in
    let short : length c.new-reader.result.lines ≡ 0 = ap length none in
    record {
      all = first_of (search rules, grind (arith, common_steps));
      consumed = none;
      fresh = ap (λ (v : LinesRead). v.refused) e;
      found = no_runs MAX_LEVEL c.new-reader.result.lines c.new-runs.result.items none c.new-runs.ensures.items;
      counted = omega arith;
    }

pub loop-number-preserved : goal.loop-number-preserved
loop-number-preserved c =
    let pairs : List (ℕ × List ℕ) = map numbered c.loop-number.yielded in
    let one : List (ℕ × Bor (List ℕ)) = (c.in-Some.number, c.in-Some.line) ∷ [] in
    let line : List ℕ = c.in-Some.line.now in
    let here : List (ℕ × List ℕ) = (c.in-Some.number, line) ∷ [] in
    let rest : List (ℕ × List ℕ) = c.next.new.self in
    let lines : List (List ℕ) = lines_of c.args.bytes.now in
    let old : List (List ℕ) = c.loop-number.reader.lines in
    let e = c.in_ok-take_numbered.ensures.lines in
    let all : pairs ++ (c.in-Some.number, line) ∷ rest ≡ numbered_from 1 lines = ap (λ (t : List (ℕ × List ℕ)). pairs ++ t) (sym c.in-Some.ensures.steps)
    ∙ c.loop-number.invariant.all in
    let more : map numbered (c.loop-number.yielded ++ one) ≡ pairs ++ here = map-append numbered c.loop-number.yielded one in
    let new : c.take_numbered.new.reader.lines ≡ old ++ line ∷ [] = ap (λ (v : LinesRead). v.lines) e in
    let long : length c.take_numbered.new.reader.lines ≡ length old + 1 = ap length new ∙ length-append old (line ∷ []) in
    let same : length old ≡ length (texts pairs) = ap length c.loop-number.invariant.consumed in
    record {
      all = ap (λ (ps : List (ℕ × List ℕ)). ps ++ rest) more ∙ append_assoc pairs here rest ∙ all;
      consumed = new ∙ ap (λ ls. ls ++ line ∷ []) c.loop-number.invariant.consumed ∙ sym (ap texts more ∙ map-append (λ (p : ℕ × List ℕ). p.1) pairs here);
      fresh = ap (λ (v : LinesRead). v.refused) e;
      found = c.in_ok-take_numbered.ensures.runs c.loop-number.invariant.found;
      counted = omega (arith, number_at lines pairs 1 c.in-Some.number line rest (omega arith) all, length_texts pairs, long, same);
    }
