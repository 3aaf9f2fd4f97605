-- A variable that a line writes has a name that no variable before it has.
use Rattle.std.proofs.Common.{◌≡◌, ℕ, List, sym, subst, ◌∙◌, inl, inr, None, Result, Ok}
use Rattle.life_base.specs.Refusal.{Answers}
use Rattle.life_base.specs.declared.kind.Kind.{Kind}
use Rattle.life_table.specs.Reading.{parse_line, variable_named, line_content}
use Rattle.life_table.specs.declared.directive.Parsed.{Parsed}
use Rattle.life_table.specs.declared.directive.Directive.{Directive}
use Rattle.life_table.specs.declared.directive.Directive.TheVariants.{Nothing, RuleName, TableOpens, TableEnds, States, Neighbors, Orders, Variable, Line}
use Rattle.life_table.specs.declared.table.Var.{Var}
use Rattle.life_table.proofs.Cases.{Says, states, neighbors, orders, variable, transition, Case, passed, named, ahead, opens, ends, silent, says, behind, line_case}
use Rattle.life_table.proofs.Values.{is_new_name}

-- a variable that is said has a new name
abbrev pub IsUnnamed : Parsed → Directive → Type 0
IsUnnamed parsed directive = (var : Var) → directive ≡ Variable var → variable_named parsed.vars var.name ≡ None

unnamed_text : (parsed : Parsed) (number : ℕ) (text : List ℕ) (directive : Directive) → Says parsed number text directive → IsUnnamed parsed directive
unnamed_text parsed number text directive (states d k none n e is) var v = absurd (let z : States n ≡ Variable var = sym is ∙ v in let w : ⊥ = cc in w)
unnamed_text parsed number text directive (neighbors d j k none h e g is) var v = absurd (let z : Neighbors h ≡ Variable var = sym is ∙ v in let w : ⊥ = cc in
    w)
unnamed_text parsed number text directive (orders d i j k none y e g is) var v = absurd (let z : Orders y ≡ Variable var = sym is ∙ v in let w : ⊥ = cc in w)
unnamed_text parsed number text directive (variable d n h y en eh ey l written of is) var v =
    let same : written ≡ var = (let z : Variable written ≡ Variable var = sym is ∙ v in cc) in
    subst (λ (w : Var). variable_named parsed.vars w.name ≡ None) same (is_new_name n parsed.vars text written of)
unnamed_text parsed number text directive (transition d n h y en eh ey l t of b q is) var v = absurd (let z : Line t ≡ Variable var = sym is ∙ v in
    let w : ⊥ = cc in w)

unnamed_case : (parsed : Parsed) (number : ℕ) (line : List ℕ) (directive : Directive) → Case parsed number line directive → IsUnnamed parsed directive
unnamed_case parsed number line directive (passed s n p is) var v = absurd (let z : Nothing ≡ Variable var = sym is ∙ v in let w : ⊥ = cc in w)
unnamed_case parsed number line directive (named s n p name e is) var v = absurd (let z : RuleName name ≡ Variable var = sym is ∙ v in let w : ⊥ = cc in w)
unnamed_case parsed number line directive (ahead s name n p is) var v = absurd (let z : Nothing ≡ Variable var = sym is ∙ v in let w : ⊥ = cc in w)
unnamed_case parsed number line directive (opens s name n p is) var v = absurd (let z : TableOpens ≡ Variable var = sym is ∙ v in let w : ⊥ = cc in w)
unnamed_case parsed number line directive (ends s l d is) var v = absurd (let z : TableEnds ≡ Variable var = sym is ∙ v in let w : ⊥ = cc in w)
unnamed_case parsed number line directive (silent s l e is) var v = absurd (let z : Nothing ≡ Variable var = sym is ∙ v in let w : ⊥ = cc in w)
unnamed_case parsed number line directive (says s l e more) var v = unnamed_text parsed number (line_content line) directive more var v
unnamed_case parsed number line directive (behind s is) var v = absurd (let z : Nothing ≡ Variable var = sym is ∙ v in let w : ⊥ = cc in w)

pub unnamed : (parsed : Parsed) (number : ℕ) (line : List ℕ) (result : Result Directive Kind) (directive : Directive)
    → Answers result (parse_line parsed number line) → result ≡ Ok directive → IsUnnamed parsed directive
unnamed parsed number line result directive answers ok = elim answers [
  | inl memory ↦ absurd (let w : ⊥ = cc in w)
  | inr is ↦ unnamed_case parsed number line directive (line_case parsed number line directive (sym is ∙ ok))
]
