-- The format of rule tables is a grammar of lines.
use Rattle.std.proofs.Common.{◌≡◌, ℕ, zero, suc, ◌+◌, ◌-◌, ◌^◌, ◌<◌, ◌≤◌, min, List, [], ◌∷◌, ◌++◌, length, take, get_or, Bool, true, false, refl, ap, sym, subst, ◌∙◌, ◌⊎◌, inl, inr, arith, append_assoc, length-append, add-one, codes, Option, Some, None, Result, Ok, Err, append-nil, take_all}
use Rattle.std.proofs.lemmas.List.{take-append-le, take_more}
use Rattle.std.proofs.lemmas.Bool.Decides.{eqb_tells}
use Rattle.std.proofs.Math.Seq.{take-append_seam, get_or-append_seam}
use Rattle.std.proofs.Math.ListN.{get_or-append}
use Rattle.life_base.specs.Text.{numbered_from}
use Rattle.life_base.specs.Rules.{rule_of, life_sets, four_sets}
use Rattle.life_base.specs.Refusal.{Prefix, kept_lines, continuations}
use Rattle.life_base.specs.declared.kind.Kind.{Kind}
use Rattle.life_base.proofs.Refusals.{UnbrokenBelow, IsByLines}
use Rattle.life_table.specs.Reading.{NumberedLine, IsTableFile, broken_table_rule, missing_table_part, missing_part_of, parsed_by, parse_line, parse_descriptor, number_after, fault_in, is_described, line_content}
use Rattle.life_table.specs.Reader.{IsGood, parsed_after}
use Rattle.life_table.specs.declared.directive.Parsed.{Parsed}
use Rattle.life_table.specs.declared.directive.Section.{Section}
use Rattle.life_table.specs.declared.directive.Section.TheVariants.{Ahead, Open, Behind}
use Rattle.life_table.specs.declared.directive.Directive.{Directive}
use Rattle.life_table.specs.declared.directive.Directive.TheVariants.{RuleName, TableOpens, States, Neighbors, Orders, Variable, Line}
use Rattle.life_table.specs.declared.table.Neighborhood.{Neighborhood}
use Rattle.life_table.specs.declared.table.Neighborhood.TheVariants.{VonNeumann, Moore}
use Rattle.life_table.specs.declared.table.Symmetry.{Symmetry}
use Rattle.life_table.specs.declared.table.Symmetry.TheVariants as symmetries
use Rattle.life_table.specs.declared.table.Var.{Var}
use Rattle.life_table.specs.declared.table.Transition.{Transition}
use Rattle.life_table.proofs.Cases.{Says, states, neighbors, orders, variable, transition, Case, passed, named, ahead, opens, ends, silent, says, behind, line_case}
use Rattle.life_table.proofs.FileLines.{Stands, line_more, stands_start, parsed_start}
use Rattle.life_table.proofs.Good.{good_more, good_start}

-- 1. What is said at each stage

pub record IsStaged (parsed : Parsed) : Type 0 where
  pub states_ahead : parsed.section ≡ Ahead → parsed.n_states ≡ None
  pub neighbors_ahead : parsed.section ≡ Ahead → parsed.neighborhood ≡ None
  pub orders_ahead : parsed.section ≡ Ahead → parsed.symmetry ≡ None
  pub described : parsed.section ≡ Behind → is_described parsed ≡ true
  pub unnamed : parsed.name ≡ None → parsed.section ≡ Ahead

staged_open : (parsed : Parsed) (next : Parsed) → IsStaged parsed → parsed.section ≡ Open → next.section ≡ parsed.section → next.name ≡ parsed.name
    → IsStaged next
staged_open parsed next g s e n = record {
  states_ahead = λ is. absurd (let z : Open ≡ Ahead = sym (e ∙ s) ∙ is in let w : ⊥ = cc in w);
  neighbors_ahead = λ is. absurd (let z : Open ≡ Ahead = sym (e ∙ s) ∙ is in let w : ⊥ = cc in w);
  orders_ahead = λ is. absurd (let z : Open ≡ Ahead = sym (e ∙ s) ∙ is in let w : ⊥ = cc in w);
  described = λ is. absurd (let z : Open ≡ Behind = sym (e ∙ s) ∙ is in let w : ⊥ = cc in w);
  unnamed = λ is. e ∙ g.unnamed (sym n ∙ is);
}

staged_says : (parsed : Parsed) (number : ℕ) (text : List ℕ) (directive : Directive) → IsStaged parsed → parsed.section ≡ Open
    → Says parsed number text directive → IsStaged (parsed_after parsed directive)
staged_says parsed number text directive g s (states d k none n e is) = subst (λ (t : Directive). IsStaged (parsed_after parsed t)) (sym is)
    (staged_open parsed (parsed_after parsed (States n)) g s refl refl)
staged_says parsed number text directive g s (neighbors d l k none h e a is) = subst (λ (t : Directive). IsStaged (parsed_after parsed t)) (sym is)
    (staged_open parsed (parsed_after parsed (Neighbors h)) g s refl refl)
staged_says parsed number text directive g s (orders d l m k none y e a is) = subst (λ (t : Directive). IsStaged (parsed_after parsed t)) (sym is)
    (staged_open parsed (parsed_after parsed (Orders y)) g s refl refl)
staged_says parsed number text directive g s (variable d n h y en eh ey v var e is) = subst (λ (t : Directive). IsStaged (parsed_after parsed t)) (sym is)
    (staged_open parsed (parsed_after parsed (Variable var)) g s refl refl)
staged_says parsed number text directive g s (transition d n h y en eh ey v t e b q is) = subst (λ (t : Directive). IsStaged (parsed_after parsed t)) (sym is)
    (staged_open parsed (parsed_after parsed (Line t)) g s refl refl)

staged_more : (parsed : Parsed) (number : ℕ) (line : List ℕ) (directive : Directive) → IsStaged parsed → Case parsed number line directive
    → IsStaged (parsed_after parsed directive)
staged_more parsed number line directive g (passed s n p is) = subst (λ (t : Directive). IsStaged (parsed_after parsed t)) (sym is) g
staged_more parsed number line directive g (named s n p name e is) = subst (λ (t : Directive). IsStaged (parsed_after parsed t)) (sym is) (record {
  states_ahead = g.states_ahead;
  neighbors_ahead = g.neighbors_ahead;
  orders_ahead = g.orders_ahead;
  described = λ b. absurd (let z : Ahead ≡ Behind = sym s ∙ b in let w : ⊥ = cc in w);
  unnamed = λ b. absurd (let w : ⊥ = cc in w);
})
staged_more parsed number line directive g (ahead s name n p is) = subst (λ (t : Directive). IsStaged (parsed_after parsed t)) (sym is) g
staged_more parsed number line directive g (opens s name n p is) = subst (λ (t : Directive). IsStaged (parsed_after parsed t)) (sym is) (record {
  states_ahead = λ b. absurd (let w : ⊥ = cc in w);
  neighbors_ahead = λ b. absurd (let w : ⊥ = cc in w);
  orders_ahead = λ b. absurd (let w : ⊥ = cc in w);
  described = λ b. absurd (let w : ⊥ = cc in w);
  unnamed = λ b. absurd (let z : Some name ≡ None = sym n ∙ b in let w : ⊥ = cc in w);
})
staged_more parsed number line directive g (ends s l d is) = subst (λ (t : Directive). IsStaged (parsed_after parsed t)) (sym is) (record {
  states_ahead = λ b. absurd (let w : ⊥ = cc in w);
  neighbors_ahead = λ b. absurd (let w : ⊥ = cc in w);
  orders_ahead = λ b. absurd (let w : ⊥ = cc in w);
  described = λ b. d;
  unnamed = λ b. absurd (let z : Open ≡ Ahead = sym s ∙ g.unnamed b in let w : ⊥ = cc in w);
})
staged_more parsed number line directive g (silent s l e is) = subst (λ (t : Directive). IsStaged (parsed_after parsed t)) (sym is) g
staged_more parsed number line directive g (says s l e more) = staged_says parsed number (line_content line) directive g s more
staged_more parsed number line directive g (behind s is) = subst (λ (t : Directive). IsStaged (parsed_after parsed t)) (sym is) g

-- 2. One more line

pub number_next : (n : ℕ) (lines : List (List ℕ)) (line : List ℕ) → n ≤ 2 ^ 64 - 1 → numbered_from n (lines ++ line ∷ []) ≡ numbered_from n lines
    ++ (min (n + length lines) (2 ^ 64 - 1), line) ∷ []
number_next n [] line h = ap (λ (k : ℕ). (k, line) ∷ []) (let e : n ≡ min (n + 0) (2 ^ 64 - 1) = omega arith in e)
number_next n (l ∷ lines) line h =
    ap (λ (t : List NumberedLine). (n, l) ∷ t) (number_next (min (n + 1) (2 ^ 64 - 1)) lines line (omega arith)
    ∙ ap (λ (k : ℕ). numbered_from (min (n + 1) (2 ^ 64 - 1)) lines ++ (k, line) ∷ [])
    (let e : min (min (n + 1) (2 ^ 64 - 1) + length lines) (2 ^ 64 - 1) ≡ min (n + length (l ∷ lines)) (2 ^ 64 - 1) = omega arith in e))

pub numbered_more : (lines : List (List ℕ)) (line : List ℕ) → numbered_from 1 (lines ++ line ∷ []) ≡ numbered_from 1 lines ++ (number_after lines, line) ∷ []
numbered_more lines line = number_next 1 lines line (omega arith)
    ∙ ap (λ (k : ℕ). numbered_from 1 lines ++ (k, line) ∷ [])
    (let e : min (1 + length lines) (2 ^ 64 - 1) ≡ min (length lines + 1) (2 ^ 64 - 1) = omega arith in e)

-- lines that break no rule
pub record Reach (lines : List (List ℕ)) : Type 0 where
  pub unbroken : UnbrokenBelow IsTableFile broken_table_rule missing_table_part lines (length lines)
  pub stands : Stands (numbered_from 1 lines)
  pub good : IsGood (parsed_by (numbered_from 1 lines))
  pub staged : IsStaged (parsed_by (numbered_from 1 lines))

pub reach_none : Reach []
reach_none = record {
  unbroken = λ k h. absurd (omega arith);
  stands = stands_start;
  good = subst IsGood (sym parsed_start) good_start;
  staged = subst IsStaged (sym parsed_start)
      (record {
        states_ahead = λ _. refl;
        neighbors_ahead = λ _. refl;
        orders_ahead = λ _. refl;
        described = λ b. absurd (let w : ⊥ = cc in w);
        unnamed = λ _. refl;
      });
}

unbroken_more : (lines : List (List ℕ)) (line : List ℕ) → UnbrokenBelow IsTableFile broken_table_rule missing_table_part lines (length lines)
    → broken_table_rule lines line ≡ None
    → UnbrokenBelow IsTableFile broken_table_rule missing_table_part (lines ++ line ∷ []) (length (lines ++ line ∷ []))
unbroken_more lines line u b k h = elim (cases_lt k (length lines) (omega (arith, h, length-append lines (line ∷ [])))) [
  | inl before ↦
      (let e : take k (lines ++ line ∷ []) ≡ take k lines = take-append-le k lines (line ∷ []) (omega (arith, before)) in
      let f : get_or (lines ++ line ∷ []) k [] ≡ get_or lines k [] = get_or-append lines (line ∷ []) [] k before in
      rw (e, f) (u k before))
  | inr here ↦
      (let e : take (length lines) (lines ++ line ∷ []) ≡ lines = take-append_seam lines (line ∷ []) in
      let f : get_or (lines ++ line ∷ []) (length lines) [] ≡ line = get_or-append_seam lines line [] [] in
      let at : broken_table_rule (take (length lines) (lines ++ line ∷ [])) (get_or (lines ++ line ∷ []) (length lines) []) ≡ None = rw (e, f) b in
      subst (λ (j : ℕ). broken_table_rule (take j (lines ++ line ∷ [])) (get_or (lines ++ line ∷ []) j []) ≡ None) (sym here) at)
]
  where
    cases_lt : (k n : ℕ) → k < n + 1 → (k < n) ⊎ (k ≡ n)
    cases_lt k n h = elim (eqb_tells k n) [ inl same ↦ inr same.1 | inr other ↦ inl (omega (arith, h, other.1)) ]

pub directive_unbroken : (lines : List (List ℕ)) (line : List ℕ) (directive : Directive) → parse_line (parsed_by (numbered_from 1 lines)) (number_after lines)
    line ≡ Ok directive → broken_table_rule lines line ≡ None
unfolding broken_table_rule
directive_unbroken lines line directive h = ap fault_in h

pub directive_broken : (lines : List (List ℕ)) (line : List ℕ) (kind : Kind) → parse_line (parsed_by (numbered_from 1 lines)) (number_after lines) line
    ≡ Err kind → broken_table_rule lines line ≡ Some kind
unfolding broken_table_rule
directive_broken lines line kind h = ap fault_in h

no_fault : (r : Result Directive Kind) → fault_in r ≡ None → (directive : Directive) × (r ≡ Ok directive)
no_fault (Ok directive) h = (directive, refl)
no_fault (Err kind) h = absurd (let z : ⊥ = cc in z)

pub unbroken_directive : (lines : List (List ℕ)) (line : List ℕ) → broken_table_rule lines line ≡ None → (directive : Directive)
    × (parse_line (parsed_by (numbered_from 1 lines)) (number_after lines) line ≡ Ok directive)
unfolding broken_table_rule
unbroken_directive lines line h = no_fault (parse_line (parsed_by (numbered_from 1 lines)) (number_after lines) line) h

pub reach_more : (lines : List (List ℕ)) (line : List ℕ) (directive : Directive) → Reach lines
    → parse_line (parsed_by (numbered_from 1 lines)) (number_after lines) line ≡ Ok directive
    → (parsed_by (numbered_from 1 (lines ++ line ∷ [])) ≡ parsed_after (parsed_by (numbered_from 1 lines)) directive) × Reach (lines ++ line ∷ [])
reach_more lines line directive r h =
    let ps = numbered_from 1 lines in
    let case : Case (parsed_by (numbered_from 1 lines)) (number_after lines) line directive = line_case (parsed_by (numbered_from 1 lines))
    (number_after lines) line directive h in
    let m = line_more (numbered_from 1 lines) (number_after lines, line) r.stands directive case in
    let e : numbered_from 1 (lines ++ line ∷ []) ≡ numbered_from 1 lines ++ (number_after lines, line) ∷ [] = numbered_more lines line in
    let is : parsed_by (numbered_from 1 (lines ++ line ∷ [])) ≡ parsed_after (parsed_by (numbered_from 1 lines)) directive = ap parsed_by e ∙ m.0 in (
      is,
      record {
        unbroken = unbroken_more lines line r.unbroken (directive_unbroken lines line directive h);
        stands = subst Stands (sym e) m.1;
        good = subst IsGood (sym is) (good_more (parsed_by (numbered_from 1 lines)) (number_after lines) line directive r.good case);
        staged = subst IsStaged (sym is) (staged_more (parsed_by (numbered_from 1 lines)) (number_after lines) line directive r.staged case);
      },
    )

-- lines of which none breaks a rule are reached one by one
reach_prefix : (lines : List (List ℕ)) → UnbrokenBelow IsTableFile broken_table_rule missing_table_part lines (length lines) → (k : ℕ) → k ≤ length lines
    → Reach (take k lines)
reach_prefix lines u zero h = reach_none
reach_prefix lines u (suc k) h =
    let r = reach_prefix lines u k (omega arith) in
    let t = unbroken_directive (take k lines) (get_or lines k []) (u k (omega arith)) in
    let m = reach_more (take k lines) (get_or lines k []) t.0 r t.1 in
    subst Reach (sym (ap (λ (j : ℕ). take j lines) (sym (add-one k)) ∙ take_more lines k [] (omega arith))) m.1

pub reach : (lines : List (List ℕ)) → UnbrokenBelow IsTableFile broken_table_rule missing_table_part lines (length lines) → Reach lines
reach lines u = subst Reach (take_all (length lines) lines (omega arith)) (reach_prefix lines u (length lines) (omega arith))

-- 3. Lines that make a whole file

pub missing_is : (lines : List (List ℕ)) → missing_table_part lines ≡ missing_part_of (parsed_by (numbered_from 1 lines))
unfolding missing_table_part
missing_is lines = refl

-- each line breaks no rule after those before it, and at the end nothing is lacking
abbrev Runs : Parsed → List (List ℕ) → Type 0
Runs parsed [] = missing_part_of parsed ≡ None
Runs parsed (line ∷ lines) = (directive : Directive) × ((number : ℕ) → parse_line parsed number line ≡ Ok directive)
    × Runs (parsed_after parsed directive) lines

run : (more lines : List (List ℕ)) → Reach lines → Runs (parsed_by (numbered_from 1 lines)) more → IsTableFile (lines ++ more)
run [] lines r whole = subst IsTableFile (sym (append-nil lines)) (record { unbroken = r.unbroken; whole = missing_is lines ∙ whole })
run (line ∷ more) lines r runs =
    let m = reach_more lines line runs.0 r (runs.1 (number_after lines)) in
    let rest : Runs (parsed_by (numbered_from 1 (lines ++ line ∷ []))) more = subst (λ (s : Parsed). Runs s more) (sym m.0) runs.2 in
    subst IsTableFile (append_assoc lines (line ∷ []) more) (run more (lines ++ line ∷ []) m.1 rest)

abbrev parsed_parts : Option (List ℕ) → Section → Option ℕ → Option Neighborhood → Option Symmetry → List Var → List Transition → Parsed
parsed_parts name section on oh oy vars lines =
    record { name = name; section = section; n_states = on; neighborhood = oh; symmetry = oy; vars = vars; lines = lines }

abbrev Ends : Parsed → Type 0
Ends parsed = (keeps : List Bool) × Runs parsed (kept_lines keeps continuations)

module _ (vars : List Var) (lines : List Transition) where
  open_ends : (name : List ℕ) (on : Option ℕ) (oh : Option Neighborhood) (oy : Option Symmetry) → Ends (parsed_parts (Some name) Open on oh oy vars lines)
  unfolding parse_line parse_descriptor
  open_ends name None None None = (
    false ∷ false ∷ false ∷ false ∷ true ∷ false ∷ true ∷ true ∷ [],
    (States 2, (λ _. refl), (Neighbors Moore, (λ _. refl), (Orders symmetries.Identity, (λ _. refl), refl))),
  )
  open_ends name None None (Some y) =
      (false ∷ false ∷ false ∷ false ∷ true ∷ false ∷ true ∷ false ∷ [], (States 2, (λ _. refl), (Neighbors Moore, (λ _. refl), refl)))
  open_ends name None (Some VonNeumann) None =
      (false ∷ false ∷ false ∷ false ∷ true ∷ false ∷ false ∷ true ∷ [], (States 2, (λ _. refl), (Orders symmetries.Identity, (λ _. refl), refl)))
  open_ends name None (Some Moore) None =
      (false ∷ false ∷ false ∷ false ∷ true ∷ false ∷ false ∷ true ∷ [], (States 2, (λ _. refl), (Orders symmetries.Identity, (λ _. refl), refl)))
  open_ends name None (Some h) (Some y) =
      (false ∷ false ∷ false ∷ false ∷ true ∷ false ∷ false ∷ false ∷ [], (States 2, (λ _. refl), refl))
  open_ends name (Some n) None None =
      (false ∷ false ∷ false ∷ false ∷ false ∷ false ∷ true ∷ true ∷ [], (Neighbors Moore, (λ _. refl), (Orders symmetries.Identity, (λ _. refl), refl)))
  open_ends name (Some n) None (Some y) =
      (false ∷ false ∷ false ∷ false ∷ false ∷ false ∷ true ∷ false ∷ [], (Neighbors Moore, (λ _. refl), refl))
  open_ends name (Some n) (Some VonNeumann) None =
      (false ∷ false ∷ false ∷ false ∷ false ∷ false ∷ false ∷ true ∷ [], (Orders symmetries.Identity, (λ _. refl), refl))
  open_ends name (Some n) (Some Moore) None =
      (false ∷ false ∷ false ∷ false ∷ false ∷ false ∷ false ∷ true ∷ [], (Orders symmetries.Identity, (λ _. refl), refl))
  open_ends name (Some n) (Some h) (Some y) = ([], refl)

  named_ends : (name : List ℕ) → Ends (parsed_parts (Some name) Ahead None None None vars lines)
  unfolding parse_line parse_descriptor
  named_ends name = (
    false ∷ false ∷ false ∷ true ∷ true ∷ false ∷ true ∷ true ∷ [],
    (TableOpens, (λ _. refl), (States 2, (λ _. refl), (Neighbors Moore, (λ _. refl), (Orders symmetries.Identity, (λ _. refl), refl)))),
  )

  start_ends : Ends (parsed_parts None Ahead None None None vars lines)
  unfolding parse_line parse_descriptor rule_of life_sets four_sets
  start_ends = (
    false ∷ false ∷ true ∷ true ∷ true ∷ false ∷ true ∷ true ∷ [],
    (
      RuleName (codes "a"),
      (λ _. refl),
      (TableOpens, (λ _. refl), (States 2, (λ _. refl), (Neighbors Moore, (λ _. refl), (Orders symmetries.Identity, (λ _. refl), refl)))),
    ),
  )

  -- whatever is said at a stage, some of the continuations make it whole
  ends_at : (name : Option (List ℕ)) (section : Section) (on : Option ℕ) (oh : Option Neighborhood) (oy : Option Symmetry)
      → IsStaged (parsed_parts name section on oh oy vars lines) → Ends (parsed_parts name section on oh oy vars lines)
  ends_at None section on oh oy g =
      let s : section ≡ Ahead = g.unnamed refl in
      subst (λ (z : Section). Ends (parsed_parts None z on oh oy vars lines)) (sym s)
      (subst (λ (o : Option ℕ). Ends (parsed_parts None Ahead o oh oy vars lines)) (sym (g.states_ahead s))
      (subst (λ (o : Option Neighborhood). Ends (parsed_parts None Ahead None o oy vars lines)) (sym (g.neighbors_ahead s))
      (subst (λ (o : Option Symmetry). Ends (parsed_parts None Ahead None None o vars lines)) (sym (g.orders_ahead s)) start_ends)))
  ends_at (Some name) Ahead on oh oy g =
      subst (λ (o : Option ℕ). Ends (parsed_parts (Some name) Ahead o oh oy vars lines)) (sym (g.states_ahead refl))
      (subst (λ (o : Option Neighborhood). Ends (parsed_parts (Some name) Ahead None o oy vars lines)) (sym (g.neighbors_ahead refl))
      (subst (λ (o : Option Symmetry). Ends (parsed_parts (Some name) Ahead None None o vars lines)) (sym (g.orders_ahead refl)) (named_ends name)))
  ends_at (Some name) Open on oh oy g = open_ends name on oh oy
  ends_at (Some name) Behind None oh oy g = absurd (let z : false ≡ true = g.described refl in let w : ⊥ = cc in w)
  ends_at (Some name) Behind (Some n) None oy g = absurd (let z : false ≡ true = g.described refl in let w : ⊥ = cc in w)
  ends_at (Some name) Behind (Some n) (Some h) None g = absurd (let z : false ≡ true = g.described refl in let w : ⊥ = cc in w)
  ends_at (Some name) Behind (Some n) (Some h) (Some y) g = ([], refl)

prefix : (lines : List (List ℕ)) → UnbrokenBelow IsTableFile broken_table_rule missing_table_part lines (length lines) → Prefix IsTableFile lines
prefix lines u =
    let r = reach lines u in
    let parsed : Parsed = parsed_by (numbered_from 1 lines) in
    let e = ends_at parsed.vars parsed.lines parsed.name parsed.section parsed.n_states parsed.neighborhood parsed.symmetry r.staged in
    (e.0, run (kept_lines e.0 continuations) lines r e.1)

pub by_lines : IsByLines IsTableFile broken_table_rule missing_table_part
by_lines = record { sound = λ lines g. g.unbroken; complete = prefix }
