-- The kinds with which a macrocell line breaks a rule.
use Rattle.std.proofs.Common.{◌≡◌, ℕ, List, ◌∷◌, [], ◌-◌, ◌^◌, ◌||◌, length, take, drop, Bool, true, false, cond, refl, sym, ap, ◌∙◌, map, ◌⊎◌, inl, inr, arith, ◌==◌, nat_le, nat_lt, not, ◌&&◌, codes, slice_index, Option, Some, None, Result, Ok, Err, ltb-true}
use Rattle.std.specs.List.{list_all, slice_index_or}
use Rattle.life_base.specs.Text.{is_too_long, is_empty, is_blank, begins_with, trim, is_digit_text, value_of}
use Rattle.life_base.specs.Numbers.{u64_of}
use Rattle.life_base.specs.Rules.{rule_of}
use Rattle.life_base.specs.Refusal.{is_placeless}
use Rattle.life_base.specs.declared.kind.Kind.{Kind}
use Rattle.life_base.specs.declared.kind.Kind.TheVariants as kinds
use Rattle.life_base.specs.declared.rule.Rule.{Rule}
use Rattle.life_base.proofs.LineKinds.{is_length_kind, names_line as kinds_name_lines}
use Rattle.life_base.proofs.RuleKinds.{errs_by, errs_by_cases, rule_errs_by}
use Rattle.life_base.proofs.Basics.{left_of_and, le_or_lt}
use Rattle.life_mc.specs.Laws.{LongMacrocellLinesBreak, MacrocellRefusalsHaveKinds}
use Rattle.life_mc.specs.Macrocell.{is_quarter, level_of}
use Rattle.std.specs.Result.{result_err}
use Rattle.life_mc.specs.Reading.{broken_rule, broken_rule_after, broken_by_node, broken_by_square, is_letter_command, is_leaf_byte, is_leaf, square_of_text, squares_of, rule_in_force, missing_macrocell_part, is_macrocell_kind}
use Rattle.life_mc.specs.declared.line.Line.{Line}
use Rattle.life_mc.specs.declared.line.Line.TheVariants.{Leaf, Quad}
use Rattle.life_mc.proofs.Stands.{breaks_length}

-- the kinds of the rules that a line breaks which isn't too long
abbrev is_short_kind : Kind → Bool
is_short_kind kind = is_macrocell_kind kind && not (is_length_kind kind)

-- no fault, or one of the kinds of the format
abbrev pub kind_in : Option Kind → Bool
kind_in None = true
kind_in (Some kind) = is_macrocell_kind kind

-- no fault, or one of those kinds
abbrev short_kind_in : Option Kind → Bool
short_kind_in None = true
short_kind_in (Some kind) = is_short_kind kind

cases : (b : Bool) (o p : Option Kind) → short_kind_in o ≡ true → short_kind_in p ≡ true → short_kind_in (cond b o p) ≡ true
cases true o p h k = h
cases false o p h k = k

in_error : {X : Type 0} (r : Result X Kind) → errs_by is_short_kind r ≡ true → short_kind_in (result_err r) ≡ true
in_error (Ok x) h = refl
in_error (Err kind) h = h

number_errs : (text : List ℕ) → errs_by is_short_kind (u64_of text) ≡ true
number_errs text =
    errs_by_cases is_short_kind (not (is_digit_text text)) (Err kinds.BadNumber)
    (cond (nat_le (value_of text) 18446744073709551615) (Ok (value_of text)) (Err kinds.TooLarge)) refl
    (errs_by_cases is_short_kind (nat_le (value_of text) 18446744073709551615) (Ok (value_of text)) (Err kinds.TooLarge) refl refl)

in_square : (top : ℕ) (rule : Rule) (levels : List ℕ) (square : Option Line) → short_kind_in (broken_by_square top rule levels square) ≡ true
in_square top rule levels (Some (Quad level nw ne sw se)) =
    cases (not (nat_le 1 level && nat_le level top)) (Some kinds.BadLevel)
    (cond (list_all (is_quarter rule levels level) (nw ∷ ne ∷ sw ∷ se ∷ [])) None (cond (level == 1) (Some kinds.StateRange) (Some kinds.BadChild))) refl
    (cases (list_all (is_quarter rule levels level) (nw ∷ ne ∷ sw ∷ se ∷ [])) None (cond (level == 1) (Some kinds.StateRange) (Some kinds.BadChild)) refl
    (cases (level == 1) (Some kinds.StateRange) (Some kinds.BadChild) refl refl))
in_square top rule levels (Some (Leaf rows)) = refl
in_square top rule levels None = refl

in_node : (top : ℕ) (rule : Rule) (levels text : List ℕ) → short_kind_in (broken_by_node top rule levels text) ≡ true
in_node top rule levels text =
    cases (is_leaf_byte (slice_index text 0) && not (is_leaf text)) (Some kinds.BadLeaf) (broken_by_square top rule levels (square_of_text text)) refl
    (in_square top rule levels (square_of_text text))

behind : (top : ℕ) (prefix : List (List ℕ)) (line : List ℕ) → short_kind_in (broken_rule_after top prefix line) ≡ true
behind top prefix line =
    let node : Option Kind = broken_by_node top (rule_in_force prefix) (map level_of (squares_of prefix)) (trim line) in
    let hash : Option Kind = cond (begins_with line (codes "#")) None node in
    let number : Option Kind = cond (is_letter_command 71 line) (result_err (u64_of (trim (drop 2 line)))) hash in
    let rule : Option Kind = cond (is_letter_command 82 line) (result_err (rule_of (drop 2 line))) number in
    let some : Bool = nat_lt 0 (length (map level_of (squares_of prefix))) in
    let late : Option Kind = cond ((is_letter_command 82 line || is_letter_command 71 line) && some) (Some kinds.LateHeader) rule in
    let frame : Option Kind = cond (begins_with line (codes "#FRAME")) (Some kinds.Timeline) late in
    cases (is_blank line) None frame refl
    (cases (begins_with line (codes "#FRAME")) (Some kinds.Timeline) late refl
    (cases ((is_letter_command 82 line || is_letter_command 71 line) && some) (Some kinds.LateHeader) rule refl
    (cases (is_letter_command 82 line) (result_err (rule_of (drop 2 line))) number
    (in_error (rule_of (drop 2 line)) (rule_errs_by is_short_kind refl refl refl refl (drop 2 line)))
    (cases (is_letter_command 71 line) (result_err (u64_of (trim (drop 2 line)))) hash
    (in_error (u64_of (trim (drop 2 line))) (number_errs (trim (drop 2 line))))
    (cases (begins_with line (codes "#")) None node refl (in_node top (rule_in_force prefix) (map level_of (squares_of prefix)) (trim line)))))))

-- the rule that a line breaks which isn't too long
abbrev broken_short : ℕ → List (List ℕ) → List ℕ → Option Kind
broken_short top prefix line = cond (is_empty prefix) (cond (begins_with line (codes "[M2]")) None (Some kinds.NoHeader)) (broken_rule_after top prefix line)

short_in : (top : ℕ) (prefix : List (List ℕ)) (line : List ℕ) → short_kind_in (broken_short top prefix line) ≡ true
short_in top prefix line =
    cases (is_empty prefix) (cond (begins_with line (codes "[M2]")) None (Some kinds.NoHeader)) (broken_rule_after top prefix line)
    (cases (begins_with line (codes "[M2]")) None (Some kinds.NoHeader) refl refl)
    (behind top prefix line)

-- a line breaks a rule by its length, or with another kind
by_length : (v : Bool) (o : Option Kind) (kind : Kind) → short_kind_in o ≡ true → cond v (Some kinds.LineTooLong) o ≡ Some kind
    → ((v ≡ true) × (kind ≡ kinds.LineTooLong)) ⊎ (is_short_kind kind ≡ true)
by_length true o kind h e = inl (refl, cc)
by_length false o kind h e = inr (ap short_kind_in (sym e) ∙ h)

how_broken : (top : ℕ) (prefix : List (List ℕ)) (line : List ℕ) (kind : Kind) → broken_rule top prefix line ≡ Some kind
    → ((is_too_long line ≡ true) × (kind ≡ kinds.LineTooLong)) ⊎ (is_short_kind kind ≡ true)
unfolding broken_rule
how_broken top prefix line kind e = by_length (is_too_long line) (broken_short top prefix line) kind (short_in top prefix line) e

-- a line breaks a rule with a kind of the format
pub broken_kind : (top : ℕ) (prefix : List (List ℕ)) (line : List ℕ) (kind : Kind) → broken_rule top prefix line ≡ Some kind → is_macrocell_kind kind ≡ true
broken_kind top prefix line kind e = elim (how_broken top prefix line kind e) [
  | inl m ↦ ap is_macrocell_kind m.1
  | inr s ↦ left_of_and (is_macrocell_kind kind) (not (is_length_kind kind)) s
]

pub long_lines_break : (top : ℕ) → LongMacrocellLinesBreak top
long_lines_break top prefix line = (
  λ e. elim (how_broken top prefix line kinds.LineTooLong e) [
    | inl m ↦ omega (arith, ltb-true (2 ^ 20) (length line) m.0)
    | inr s ↦ cc
  ],
  breaks_length top prefix line,
)

missing_kind : (lines : List (List ℕ)) (kind : Kind) → missing_macrocell_part lines ≡ Some kind → is_macrocell_kind kind ≡ true
missing_kind [] kind e = sym (ap kind_in e)
missing_kind (line ∷ lines) kind e = cc

-- lines that are no file are refused with a kind of the format
pub refusals_have_kinds : (top : ℕ) → MacrocellRefusalsHaveKinds top
refusals_have_kinds top lines fault r = elim (le_or_lt r.n (length lines)) [
  | inl within ↦ broken_kind top (take (r.n - 1) lines) (slice_index_or lines (r.n - 1) []) fault.kind (r.at_line within)
  | inr beyond ↦ missing_kind lines fault.kind (r.at_end beyond)
]

-- each of these kinds names a line
pub names_line : (kind : Kind) → is_macrocell_kind kind ≡ true → is_placeless kind ≡ false
names_line = kinds_name_lines is_macrocell_kind refl
