-- Each node line of a file gives a square.
use Rattle.std.proofs.Common.{◌≡◌, ℕ, suc, ◌+◌, ◌<◌, List, [], ◌∷◌, length, take, drop, get_or, map, count_by, Bool, true, false, cond, not, ◌&&◌, ◌||◌, refl, ap, sym, ◌∙◌, arith, codes, nat_lt, slice_index, Option, Some, None, filter_map}
use Rattle.std.specs.List.{cons_option}
use Rattle.std.proofs.lemmas.List.Sums.{sum_by-cons}
use Rattle.std.proofs.lemmas.Bool.{not-true}
use Rattle.life_base.proofs.Basics.{right_of_and, left_of_and}
use Rattle.life_base.specs.Text.{begins_with, is_blank, is_too_long, lines_of, trim}
use Rattle.life_base.specs.Numbers.{u64_of}
use Rattle.life_base.specs.Rules.{rule_of}
use Rattle.life_base.specs.declared.kind.Kind.{Kind}
use Rattle.life_base.specs.declared.kind.Kind.TheVariants.{BadLeaf, LateHeader, LineTooLong, Timeline}
use Rattle.life_base.specs.declared.rule.Rule.{Rule}
use Rattle.life_mc.specs.Macrocell.{level_of}
use Rattle.life_mc.specs.Accepted.{NodeLinesCounted}
use Rattle.std.specs.Result.{result_err}
use Rattle.life_mc.specs.Reading.{broken_rule, broken_rule_after, broken_by_node, broken_by_square, is_letter_command, is_leaf, is_leaf_byte, is_node_line, rule_in_force, square_of_text, square_on, squares_of}
use Rattle.life_mc.specs.declared.line.Line.{Line}
use Rattle.life_mc.proofs.TextBack.{no_mark}

abbrev IsThere : Option Line → Type 0
IsThere o = (square : Line) × (o ≡ Some square)

pub passed : (v : Bool) (kind : Kind) (rest : Option Kind) → cond v (Some kind) rest ≡ None → rest ≡ None
passed true kind rest h = cc
passed false kind rest h = h

there_by : (top : ℕ) (rule : Rule) (levels : List ℕ) (v : Bool) (o : Option Line) → cond v (Some BadLeaf) (broken_by_square top rule levels o) ≡ None
    → IsThere o
there_by top rule levels true o h = cc
there_by top rule levels false None h = cc
there_by top rule levels false (Some square) h = (square, refl)

module _ (top : ℕ) (header : List ℕ) (prefix : List (List ℕ)) (line : List ℕ) (n : is_node_line line ≡ true) where
  abbrev before : List (List ℕ)
  before = header ∷ prefix

  blank : is_blank line ≡ false
  blank = not-true (is_blank line) (left_of_and _ (not (begins_with line (codes "#"))) n)

  hash : begins_with line (codes "#") ≡ false
  hash = not-true (begins_with line (codes "#")) (right_of_and (not (is_blank line)) _ n)

  judged : broken_rule_after top before line ≡ broken_by_node top (rule_in_force before) (map level_of (squares_of before)) (trim line)
  judged =
      let m = no_mark line hash blank in
      cascade (is_blank line) (begins_with line (codes "#FRAME")) (is_letter_command 82 line) (is_letter_command 71 line)
      (nat_lt 0 (length (map level_of (squares_of before)))) (begins_with line (codes "#")) blank m.0 m.1 m.2 hash
    where
      cascade : (b f r g l m : Bool) → b ≡ false → f ≡ false → r ≡ false → g ≡ false → m ≡ false
          → cond b None (cond f (Some Timeline)
          (cond ((r || g) && l) (Some LateHeader) (cond r (result_err (rule_of (drop 2 line))) (cond g (result_err (u64_of (trim (drop 2 line))))
          (cond m None (broken_by_node top (rule_in_force before) (map level_of (squares_of before)) (trim line)))))))
          ≡ broken_by_node top (rule_in_force before) (map level_of (squares_of before)) (trim line)
      cascade b f r g l m p q s u w = rw (p, q, s, u, w) refl

  behind : broken_rule top before line ≡ None → broken_rule_after top before line ≡ None
  unfolding broken_rule
  behind h = passed (is_too_long line) LineTooLong _ h

  square_there : broken_rule top before line ≡ None → IsThere (square_on line)
  square_there h =
      let t = there_by top (rule_in_force before) (map level_of (squares_of before)) (is_leaf_byte (slice_index (trim line) 0) && not (is_leaf (trim line)))
      (square_of_text (trim line)) (sym judged ∙ behind h) in
      (t.0, ap (λ v. cond v (square_of_text (trim line)) None) n ∙ t.1)

-- as many squares as node lines, where each of these has a square
one_more : (v : Bool) (o : Option Line) (squares : List Line) → (v ≡ true → IsThere o) → (v ≡ false → o ≡ None)
    → length (cons_option o squares) ≡ cond v 1 0 + length squares
one_more true None squares h k = absurd (no (h refl).0 (h refl).1)
  where
    no : (square : Line) → None ≡ Some square → ⊥
    no square e = cc
one_more true (Some square) squares h k = omega arith
one_more false None squares h k = omega arith
one_more false (Some square) squares h k = absurd (no (k refl))
  where
    no : Some square ≡ None → ⊥
    no e = cc

counted : (lines : List (List ℕ)) → ((k : ℕ) → k < length lines → is_node_line (get_or lines k []) ≡ true → IsThere (square_on (get_or lines k [])))
    → length (filter_map square_on lines) ≡ count_by is_node_line lines
counted [] h = refl
counted (line ∷ lines) h =
    one_more (is_node_line line) (square_on line) (filter_map square_on lines) (h 0 (omega arith)) (λ e. ap (λ v. cond v (square_of_text (trim line)) None) e)
    ∙ ap (λ m. cond (is_node_line line) 1 0 + m) (counted lines (λ k l e. h (suc k) (omega arith) e))
    ∙ sym (sum_by-cons (λ l. cond (is_node_line l) 1 0) line lines)

behind_header : (top : ℕ) (lines : List (List ℕ)) → 0 < length lines → ((k : ℕ) → k < length lines → broken_rule top (take k lines) (get_or lines k []) ≡ None)
    → length (squares_of lines) ≡ count_by is_node_line (drop 1 lines)
behind_header top [] some h = absurd (omega arith)
behind_header top (header ∷ lines) some h = counted lines (λ k l n. square_there top header (take k lines) (get_or lines k []) n (h (suc k) (omega arith)))

pub node_lines_counted : (top : ℕ) → NodeLinesCounted top
node_lines_counted top = λ bytes file m. ap length m.squares ∙ behind_header top (lines_of bytes) m.header m.unbroken
