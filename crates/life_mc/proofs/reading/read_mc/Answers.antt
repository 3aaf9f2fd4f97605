use Rattle.std.proofs.Common.{◌≡◌, ◌⊎◌, ◌++◌, ◌∷◌, [], true, false, cond, List, ℕ, map, Err, sym, ◌∙◌, ap, subst, inl, inr, Some}
use Rattle.life_base.specs.Text.{lines_of, numbered_from}
use Rattle.life_base.specs.Refusal.{fault_at, OrMemory}
use Rattle.life_base.specs.declared.fault.Fault.{Fault}
use Rattle.life_base.specs.declared.kind.Kind.{Kind}
use Rattle.life_base.specs.declared.kind.Kind.TheVariants.{Memory, NoHeader, Spent}
use Rattle.life_base.specs.declared.cell.TheConstants.{MAX_LEVEL}
use Rattle.life_base.proofs.NumberedLines.{numbered, whole_read}
use Rattle.life_mc.specs.Grammar.{IsPlainMacrocell}
use Rattle.life_mc.specs.Macrocell.{Macrocell}
use Rattle.life_mc.specs.Reading.{broken_rule, RefusesMacrocell, is_macrocell_kind}
use Rattle.life_mc.proofs.LineKinds.{broken_kind, names_line}
use Rattle.life_mc.proofs.LinesConsumed.{refused_here, file_of}
use Rattle.life_mc.proofs.ReadLines.{no_lines}
use Rattle.life_mc.proofs.reading.read_mc.Goals as goal

-- the fault of a line that breaks a rule after these
at_line : (prefix : List (List ℕ)) (line : List ℕ) (number : ℕ) (kind : Kind) (fault : Fault) → fault ≡ fault_at number kind → (kind ≡ Memory)
    ⊎ (broken_rule MAX_LEVEL prefix line ≡ Some kind)
    → OrMemory fault ((broken_rule MAX_LEVEL prefix line ≡ Some fault.kind) × (fault.place.line ≡ number))
at_line prefix line number kind fault e (inl m) = inl (e ∙ ap (fault_at number) m)
at_line prefix line number kind fault e (inr b) = inr (
  b ∙ ap Some (sym (ap (λ (f : Fault). f.kind) e)),
  ap (λ (f : Fault). f.place.line) e ∙ ap (λ v. cond v 0 number) (names_line kind (broken_kind MAX_LEVEL prefix line kind b)),
)

pub returns-in-Err-clause-err : goal.returns-in-Err-clause-err
returns-in-Err-clause-err c =
    let pairs : List (ℕ × List ℕ) = map numbered c.loop-number.yielded in
    let lines : List (List ℕ) = lines_of c.args.bytes.now in
    let prefix : List (List ℕ) = c.loop-number.reader.lines in
    let line : List ℕ = c.in-Some.line.now in
    let fault : Fault = c.at.result in
    let all : pairs ++ (c.in-Some.number, line) ∷ c.next.new.self ≡ numbered_from 1 lines =
    ap (λ (t : List (ℕ × List ℕ)). pairs ++ t) (sym c.in-Some.ensures.steps) ∙ c.loop-number.invariant.all in
    let answer : OrMemory fault (RefusesMacrocell MAX_LEVEL lines fault) = elim
    (at_line prefix line c.in-Some.number c.in-Err.kind fault c.at.ensures c.in-Err.ensures.fault) [
      | inl m ↦ inl m
      | inr w ↦ inr (refused_here MAX_LEVEL lines pairs c.in-Some.number line _ prefix fault all c.loop-number.invariant.consumed
          c.loop-number.invariant.unbroken
          w.0 w.1)
    ] in
    answer

pub returns-in-Err-clause-kinds : goal.returns-in-Err-clause-kinds
returns-in-Err-clause-kinds c =
    let prefix : List (List ℕ) = c.loop-number.reader.lines in
    let line : List ℕ = c.in-Some.line.now in
    let fault : Fault = c.at.result in
    let answer : OrMemory fault (is_macrocell_kind fault.kind ≡ true) = elim
    (at_line prefix line c.in-Some.number c.in-Err.kind fault c.at.ensures c.in-Err.ensures.fault) [
      | inl m ↦ inl m
      | inr w ↦ inr (broken_kind MAX_LEVEL prefix line fault.kind w.0)
    ] in
    answer

pub invariant_of-result : goal.invariant_of-result
invariant_of-result c =
    let said = c.in-Ok.ensures.file in
    let read : List (List ℕ) = c.loop-number.reader.lines in
    let file : Macrocell = record { rule = c.in-Ok.rule; generation = c.in-Ok.generation; lines = c.from_vec.result } in
    let is : IsPlainMacrocell MAX_LEVEL read file = file_of MAX_LEVEL read said.0 file said.1 said.2 said.3
    (c.from_vec.ensures ∙ c.loop-number.invariant.squares) in
    is.valid

pub returns-in-Ok-clause-ok : goal.returns-in-Ok-clause-ok
returns-in-Ok-clause-ok c =
    let said = c.in-Ok.ensures.file in
    let read : List (List ℕ) = c.loop-number.reader.lines in
    let file : Macrocell = record { rule = c.in-Ok.rule; generation = c.in-Ok.generation; lines = c.from_vec.result } in
    let is : IsPlainMacrocell MAX_LEVEL read file = file_of MAX_LEVEL read said.0 file said.1 said.2 said.3
    (c.from_vec.ensures ∙ c.loop-number.invariant.squares) in
    let loop = c.loop-number.invariant in
    let whole = whole_read (lines_of c.args.bytes.now) c.loop-number.reader.lines c.loop-number.yielded _ loop.consumed loop.all c.in-None.ensures.steps.0 in
    subst (λ ls. IsPlainMacrocell MAX_LEVEL ls file) whole is

pub returns-in-Err-end-clause-err : goal.returns-in-Err-end-clause-err
returns-in-Err-end-clause-err c =
    let lines : List (List ℕ) = lines_of c.args.bytes.now in
    let loop = c.loop-number.invariant in
    let whole = whole_read lines c.loop-number.reader.lines c.loop-number.yielded _ loop.consumed loop.all c.in-None.ensures.steps.0 in
    let kind : Kind = c.in-Err-end.kind in
    let e : c.at-in-Err-end.result ≡ fault_at 1 kind = c.at-in-Err-end.ensures in
    let only : (kind ≡ NoHeader) ⊎ (kind ≡ Spent) = c.in-Err-end.ensures.only in
    let Q : List (List ℕ) → Type 0 = λ ls. RefusesMacrocell MAX_LEVEL ls (fault_at 1 NoHeader) in
    let answer : OrMemory c.at-in-Err-end.result (RefusesMacrocell MAX_LEVEL lines c.at-in-Err-end.result) = elim only [
      | inl m ↦ (let none : c.loop-number.reader.lines ≡ [] = (c.in-Err-end.ensures.missing c.loop-number.invariant.fresh).0 (ap Err m) in
          inr (subst (RefusesMacrocell MAX_LEVEL lines) (sym (e ∙ ap (fault_at 1) m)) (subst Q (sym none ∙ whole) (no_lines MAX_LEVEL))))
      | inr s ↦ (let refused : c.loop-number.reader.refused ≡ true = c.in-Err-end.ensures.spent.0 (ap Err s) in
          let fresh : c.loop-number.reader.refused ≡ false = c.loop-number.invariant.fresh in cc)
    ] in
    answer
