-- Reading the lines of a rule table one after another.
use Rattle.std.proofs.Common.{◌≡◌, ℕ, ◌+◌, ◌-◌, ◌^◌, min, List, [], ◌∷◌, ◌++◌, length, Bool, false, refl, ap, sym, subst, ◌∙◌, arith, length-append, Some, None, Result, Ok, Err}
use Rattle.std.proofs.lemmas.List.{map-append}
use Rattle.life_base.specs.Text.{numbered_from}
use Rattle.life_base.specs.declared.kind.Kind.{Kind}
use Rattle.life_base.specs.declared.fault.Fault.{Fault}
use Rattle.life_base.proofs.Refusals.{refusal_at_end}
use Rattle.life_base.proofs.NumberedLines.{number_at, length_texts, all_read}
use Rattle.life_base.proofs.NumberedLines as numbered
use Rattle.life_table.specs.Reading.{NumberedLine, texts_of_lines, IsTableFile, AreTable, Describes, broken_table_rule, missing_table_part, missing_part_of, parsed_by, parse_line, number_after, RefusesTable}
use Rattle.life_table.specs.Reader.{IsGood, IsKeptParse, parsed_after, fits_after, nothing_parsed}
use Rattle.life_table.specs.declared.directive.Parsed.{Parsed}
use Rattle.life_table.specs.declared.directive.Directive.{Directive}
use Rattle.life_table.specs.declared.table.Table.{Table}
use Rattle.life_table.proofs.Cases.{line_case}
use Rattle.life_table.proofs.FileLines.{parsed_start}
use Rattle.life_table.proofs.Good.{kept_start, kept_more}
use Rattle.life_table.proofs.ByLines.{by_lines, Reach, reach_none, reach_more, numbered_more, directive_broken, missing_is}

-- what was read of the lines so far
pub record Reads (pairs : List NumberedLine) (parsed : Parsed) (fit : Bool) : Type 0 where
  pub numbers : pairs ≡ numbered_from 1 (texts_of_lines pairs)
  pub reached : Reach (texts_of_lines pairs)
  pub is : parsed ≡ parsed_by pairs
  pub keeps : IsKeptParse parsed fit

pub reads_none : Reads [] nothing_parsed false
reads_none = record { numbers = refl; reached = reach_none; is = sym parsed_start; keeps = kept_start }

pub good_reads : (pairs : List NumberedLine) (parsed : Parsed) (fit : Bool) → Reads pairs parsed fit → IsGood parsed
good_reads pairs parsed fit reads = subst (λ (s : Parsed). IsGood s) (sym (reads.is ∙ ap parsed_by reads.numbers)) reads.reached.good

module _ (lines : List (List ℕ)) (pairs : List NumberedLine) (number : ℕ) (line : List ℕ) (rest : List NumberedLine)
    (all : pairs ++ (number, line) ∷ rest ≡ numbered_from 1 lines)
    (parsed : Parsed) (fit : Bool) (reads : Reads pairs parsed fit) where
  pub number_is : number ≡ number_after (texts_of_lines pairs)
  number_is = let e = number_at lines pairs 1 number line rest (omega arith) all in omega (arith, e, length_texts pairs)

  -- what the line tells, as the definitions have it
  directive_there : (r : Result Directive Kind) → parse_line parsed number line ≡ r
      → parse_line (parsed_by (numbered_from 1 (texts_of_lines pairs))) (number_after (texts_of_lines pairs)) line ≡ r
  directive_there r h =
      ap (λ (s : Parsed). parse_line s (number_after (texts_of_lines pairs)) line) (sym (reads.is ∙ ap parsed_by reads.numbers))
      ∙ ap (λ (k : ℕ). parse_line parsed k line) (sym number_is) ∙ h

  pub reads_more : (directive : Directive) (next : Parsed) (next_fit : Bool) → parse_line parsed number line ≡ Ok directive → next
      ≡ parsed_after parsed directive
      → next_fit ≡ fits_after fit parsed.vars directive
      → Reads (pairs ++ (number, line) ∷ []) next next_fit
  reads_more directive next next_fit h n f =
      let m = reach_more (texts_of_lines pairs) line directive reads.reached (directive_there (Ok directive) h) in
      let t : texts_of_lines (pairs ++ (number, line) ∷ []) ≡ texts_of_lines pairs ++ line
      ∷ [] = map-append (λ (p : NumberedLine). p.1) pairs ((number, line) ∷ []) in
      let numbers : pairs ++ (number, line) ∷ [] ≡ numbered_from 1 (texts_of_lines pairs ++ line ∷ []) =
      ap (λ (ps : List NumberedLine). ps ++ (number, line) ∷ []) reads.numbers
      ∙ ap (λ (k : ℕ). numbered_from 1 (texts_of_lines pairs) ++ (k, line) ∷ []) number_is
      ∙ sym (numbered_more (texts_of_lines pairs) line) in
      let k : IsKeptParse (parsed_after parsed directive) (fits_after fit parsed.vars directive) = kept_more parsed number line directive fit
      (good_reads pairs parsed fit reads) reads.keeps (line_case parsed number line directive h) in
      record {
        numbers = numbers ∙ ap (numbered_from 1) (sym t);
        reached = subst Reach (sym t) m.1;
        is = n ∙ ap (λ (s : Parsed). parsed_after s directive) (reads.is ∙ ap parsed_by reads.numbers) ∙ sym m.0 ∙ ap parsed_by (sym numbers);
        keeps = subst (λ (s : Parsed). IsKeptParse s next_fit) (sym n) (subst (IsKeptParse (parsed_after parsed directive)) (sym f) k);
      }

  pub next_number : (next : ℕ) → next ≡ min (number + 1) (2 ^ 64 - 1) → next ≡ min (length (pairs ++ (number, line) ∷ []) + 1) (2 ^ 64 - 1)
  next_number next h = let e = number_at lines pairs 1 number line rest (omega arith) all in omega (arith, h, e, length-append pairs ((number, line) ∷ []))

  pub refused_at : (fault : Fault) → parse_line parsed number line ≡ Err fault.kind → fault.place.line ≡ number → RefusesTable lines fault
  refused_at fault h l =
      numbered.refused_at IsTableFile broken_table_rule missing_table_part by_lines lines pairs number line rest fault all reads.reached.unbroken
      (directive_broken (texts_of_lines pairs) line fault.kind (directive_there (Err fault.kind) h)) l

module _ (lines : List (List ℕ)) (pairs rest : List NumberedLine) (all : pairs ++ rest ≡ numbered_from 1 lines) (none : rest ≡ [])
    (parsed : Parsed) (fit : Bool) (reads : Reads pairs parsed fit) where
  parsed_is : parsed ≡ parsed_by (numbered_from 1 lines)
  parsed_is = reads.is ∙ ap parsed_by (reads.numbers ∙ ap (numbered_from 1) (all_read lines pairs rest all none))

  reached : Reach lines
  reached = subst Reach (all_read lines pairs rest all none) reads.reached

  pub read_whole : (table : Table) → missing_part_of parsed ≡ None → Describes parsed table → AreTable lines table
  read_whole table l d = record {
    file = record { unbroken = reached.unbroken; whole = missing_is lines ∙ ap missing_part_of (sym parsed_is) ∙ l };
    says = subst (λ (s : Parsed). Describes s table) parsed_is d;
  }

  pub refused_at_end : (fault : Fault) (next : ℕ) → missing_part_of parsed ≡ Some fault.kind → fault.place.line ≡ next → next
      ≡ min (length pairs + 1) (2 ^ 64 - 1)
      → RefusesTable lines fault
  refused_at_end fault next l at n =
      let lacks : missing_table_part lines ≡ Some fault.kind = missing_is lines ∙ ap missing_part_of (sym parsed_is) ∙ l in
      let r = refusal_at_end IsTableFile broken_table_rule missing_table_part by_lines lines fault.kind reached.unbroken
      (λ g. let z : None ≡ Some fault.kind = sym g.whole ∙ lacks in
      cc) lacks in
      let size : length lines ≡ length pairs = sym (ap length (all_read lines pairs rest all none)) ∙ length_texts pairs in
      subst (λ (k : ℕ). RefusesTable lines (record { place = record { line = k }; kind = fault.kind })) (omega (arith, at, n, size)) r
