use Rattle.std.proofs.Common.{rules, ◌≡◌, ◌++◌, ◌∷◌, ◌+◌, ◌-◌, ◌^◌, min, length, [], List, ℕ, Bool, map, sym, ◌∙◌, ap, subst, inl, inr, append_assoc, refl, true, Err, None, Some}
use Rattle.std.proofs.lemmas.List.{map-append}
use Rattle.std.proofs.lemmas.Result.{IfOk-weaker, MatchResult-weaker}
use Rattle.life_base.proofs.Results.{error_is}
use Rattle.life_base.specs.Text.{lines_of, numbered_from}
use Rattle.life_base.specs.Refusal.{OrMemory}
use Rattle.life_base.specs.declared.fault.Fault.{Fault}
use Rattle.life_table.specs.Grammar.{IsPlainTable}
use Rattle.life_table.specs.Reading.{NumberedLine, RefusesTable, Describes, is_table_kind, missing_part_of, parse_line}
use Rattle.life_table.specs.Reader.{nothing_parsed}
use Rattle.life_table.specs.declared.directive.Parsed.{Parsed}
use Rattle.life_table.proofs.Grammars.{grammars_agree}
use Rattle.life_table.proofs.LineKinds.{directive_kind, lacking_kind}
use Rattle.life_table.proofs.ReadLines.{Reads, reads_none, reads_more, next_number, refused_at, read_whole, refused_at_end, good_reads}
use Rattle.life_table.proofs.reading.read_table_seeded.Invariants.{numbered}
use Rattle.life_table.proofs.reading.read_table_seeded.Goals as goal

pub loop-number-init : goal.loop-number-init
loop-number-init c = record {
  all = search rules;
  reads = subst (λ (s : Parsed). Reads [] s c.new-reader.result.fits) (sym c.new-reader.ensures.parsed)
      (subst (λ (b : Bool). Reads [] nothing_parsed b) (sym c.new-reader.ensures.fits) reads_none);
  next = refl;
}

pub returns-in_err-line-clause-err : goal.returns-in_err-line-clause-err
returns-in_err-line-clause-err c =
    let pairs : List NumberedLine = map numbered c.loop-number.yielded in
    let fault : Fault = c.in_err-line.field-0.0 in
    let directive : OrMemory fault
    ((parse_line c.loop-number.reader.parsed c.in-Some.number c.in-Some.line.now ≡ Err fault.kind) × (fault.place.line ≡ c.in-Some.number))
    = c.in_err-line.ensures.err in
    let all : pairs ++ (c.in-Some.number, c.in-Some.line.now) ∷ c.next.new.self
    ≡ numbered_from 1 (lines_of c.args.bytes.now) =
    ap (λ (t : List NumberedLine). pairs ++ t) (sym c.in-Some.ensures.steps) ∙ c.loop-number.invariant.all in
    let answer : OrMemory fault (RefusesTable (lines_of c.args.bytes.now) fault) = elim directive [
      | inl m ↦ inl m
      | inr w ↦ inr (refused_at (lines_of c.args.bytes.now) pairs c.in-Some.number c.in-Some.line.now _ all c.loop-number.reader.parsed
          c.loop-number.reader.fits c.loop-number.invariant.reads fault w.0 w.1)
    ] in
    rw (error_is c.from_residual.result c.from_residual.ensures.1) answer

pub returns-in_err-line-clause-kinds : goal.returns-in_err-line-clause-kinds
returns-in_err-line-clause-kinds c =
    let fault : Fault = c.in_err-line.field-0.0 in
    let parsed : Parsed = c.loop-number.reader.parsed in
    let directive : OrMemory fault ((parse_line parsed c.in-Some.number c.in-Some.line.now ≡ Err fault.kind) × (fault.place.line ≡ c.in-Some.number))
    = c.in_err-line.ensures.err in
    let answer : OrMemory fault (is_table_kind fault.kind ≡ true) = elim directive
    [ inl m ↦ inl m | inr w ↦ inr (directive_kind parsed c.in-Some.number c.in-Some.line.now fault.kind w.0) ] in
    rw (error_is c.from_residual.result c.from_residual.ensures.1) answer

pub loop-number-preserved : goal.loop-number-preserved
loop-number-preserved c =
    let pairs : List NumberedLine = map numbered c.loop-number.yielded in
    let lines : List (List ℕ) = lines_of c.args.bytes.now in
    let number : ℕ = c.in-Some.number in
    let line : List ℕ = c.in-Some.line.now in
    let rest : List NumberedLine = c.next.new.self in
    let all : pairs ++ (number, line) ∷ rest ≡ numbered_from 1 lines = ap (λ (t : List NumberedLine). pairs ++ t) (sym c.in-Some.ensures.steps)
    ∙ c.loop-number.invariant.all in
    let more : map numbered (c.loop-number.yielded ++ (c.in-Some.number, c.in-Some.line) ∷ []) ≡ pairs ++ (number, line) ∷ [] =
    map-append numbered c.loop-number.yielded ((c.in-Some.number, c.in-Some.line) ∷ []) in
    let ok = c.in_ok-line.ensures.ok in
    record {
      all = ap (λ (t : List NumberedLine). t ++ rest) more ∙ append_assoc pairs ((number, line) ∷ []) rest ∙ all;
      reads = subst (λ (ps : List NumberedLine). Reads ps c.line.new.self.parsed c.line.new.self.fits) (sym more)
          (reads_more lines pairs number line rest all c.loop-number.reader.parsed c.loop-number.reader.fits c.loop-number.invariant.reads ok.0
          c.line.new.self.parsed c.line.new.self.fits ok.1 ok.2 ok.3);
      next = next_number lines pairs number line rest all c.loop-number.reader.parsed c.loop-number.reader.fits c.loop-number.invariant.reads
          c.saturating_add-next.result c.saturating_add-next.ensures
          ∙ ap (λ (ps : List NumberedLine). min (length ps + 1) (2 ^ 64 - 1)) (sym more);
    }

pub returns-clause-ok : goal.returns-clause-ok
returns-clause-ok c =
    let lines : List (List ℕ) = lines_of c.args.bytes.now in
    IfOk-weaker c.table_of.result (λ table. (missing_part_of c.loop-number.reader.parsed ≡ None) × Describes c.loop-number.reader.parsed table)
    (IsPlainTable lines)
    (λ table h. (grammars_agree lines table).1 (read_whole lines (map numbered c.loop-number.yielded) _ c.loop-number.invariant.all c.in-None.ensures.steps.0
    c.loop-number.reader.parsed c.loop-number.reader.fits c.loop-number.invariant.reads table h.0 h.1))
    c.table_of.ensures.ok

pub returns-clause-err : goal.returns-clause-err
returns-clause-err c =
    MatchResult-weaker c.table_of.result
    {Q = λ fault. OrMemory fault ((missing_part_of c.loop-number.reader.parsed ≡ Some fault.kind) × (fault.place.line ≡ c.loop-number.next))}
    c.table_of.ensures.err
    (λ table h. h) (λ fault h. elim h [
      | inl m ↦ inl m
      | inr w ↦ inr (refused_at_end (lines_of c.args.bytes.now) (map numbered c.loop-number.yielded) _ c.loop-number.invariant.all c.in-None.ensures.steps.0
          c.loop-number.reader.parsed c.loop-number.reader.fits c.loop-number.invariant.reads fault c.loop-number.next w.0 w.1 c.loop-number.invariant.next)
    ])

pub returns-clause-kinds : goal.returns-clause-kinds
returns-clause-kinds c =
    MatchResult-weaker c.table_of.result
    {Q = λ fault. OrMemory fault ((missing_part_of c.loop-number.reader.parsed ≡ Some fault.kind) × (fault.place.line ≡ c.loop-number.next))}
    c.table_of.ensures.err
    (λ table h. h)
    (λ fault h. elim h [ inl m ↦ inl m | inr w ↦ inr (lacking_kind c.loop-number.reader.parsed fault.kind w.0) ])

pub table_of-requires : goal.table_of-requires
table_of-requires c = record {
  good = good_reads (map numbered c.loop-number.yielded) c.loop-number.reader.parsed c.loop-number.reader.fits
      c.loop-number.invariant.reads;
}
