-- Node lines by their index, and the squares of their numbers.
use Rattle.std.proofs.Common.{ℕ, zero, suc, ◌-◌, ◌≡◌, ◌<◌, ◌≤◌, Bool, true, List, [], ◌∷◌, length, take, map, refl, ap, sym, ◌∙◌, subst, arith, inl, inr, nat_le, Option, Some, None, slice_get}
use Rattle.std.specs.List.{list_all}
use Rattle.std.proofs.lemmas.Bool.Decides.{nat_tests}
use Rattle.life_base.specs.Tree.{Tree, blank}
use Rattle.life_mc.specs.Squares.{tree_at, line_tree, tree_of}
use Rattle.life_pattern.proofs.TreeWords.{HasDepth, point_depth, quad_depth}
use Rattle.life_base.specs.declared.rule.Rule.{Rule}
use Rattle.life_mc.specs.Macrocell.{AreSquares, IsSquare, level_of, is_quarter, is_child, is_level, largest_state}
use Rattle.life_mc.specs.Cells.{root_level}
use Rattle.life_mc.specs.declared.line.Line.{Line}
use Rattle.life_mc.specs.declared.line.Line.TheVariants.{Leaf, Quad}
use Rattle.life_pattern.proofs.LineWords.{line_at, IsChild, IsQuarter, IsValidLine, AreValidLines}
use Rattle.life_base.proofs.Basics.{less_one, suc_not_zero, suc_suc_not_one}

-- the line of an index within
pub get-line_at : (lines : List Line) (i : ℕ) → i < length lines → slice_get lines i ≡ Some (line_at lines i)
get-line_at [] i h = absurd (omega arith)
get-line_at (line ∷ lines) zero h = refl
get-line_at (line ∷ lines) (suc i) h = get-line_at lines i (omega arith)

pub line_at-get : (lines : List Line) (i : ℕ) (line : Line) → slice_get lines i ≡ Some line → (i < length lines) × (line_at lines i ≡ line)
line_at-get [] i line h = cc
line_at-get (first ∷ lines) zero line h = (omega arith, cc)
line_at-get (first ∷ lines) (suc i) line h = let r = line_at-get lines i line h in (omega (arith, r.0), r.1)

-- the square of a number of a line
pub tree_of-line : (lines : List Line) (k i : ℕ) → i < length lines → tree_of lines (suc k) (suc i) ≡ line_tree (tree_of lines k) (line_at lines i)
tree_of-line lines k i h =
    let f : Option Line → Tree = λ o. elim o [ None ↦ blank (suc k) | Some line ↦ line_tree (tree_of lines k) line ] in
    ap f (get-line_at lines i h)

-- ---- the levels of the first lines

level-take : (lines : List Line) (i j level : ℕ) → i ≤ length lines → is_level level (slice_get (map level_of (take i lines)) j) ≡ true
    → (j < i) × (level_of (line_at lines j) ≡ level)
level-take lines zero j level h e = cc
level-take [] (suc i) j level h e = cc
level-take (line ∷ lines) (suc i) zero level h e = (omega arith, grind (arith, nat_tests))
level-take (line ∷ lines) (suc i) (suc j) level h e = let r = level-take lines i j level (omega arith) e in (omega (arith, r.0), r.1)

take-level : (lines : List Line) (i j level : ℕ) → i ≤ length lines → j < i → level_of (line_at lines j) ≡ level
    → is_level level (slice_get (map level_of (take i lines)) j) ≡ true
take-level lines zero j level h l e = absurd (omega arith)
take-level [] (suc i) j level h l e = absurd (omega arith)
take-level (line ∷ lines) (suc i) zero level h l e = grind (arith, nat_tests)
take-level (line ∷ lines) (suc i) (suc j) level h l e = take-level lines i j level (omega arith) (omega arith) e

child-suc : (levels : List ℕ) (level j : ℕ) → is_child levels level (suc j) ≡ is_level level (slice_get levels j)
child-suc levels level j = rw (suc_not_zero j) refl

quarter-high : (rule : Rule) (levels : List ℕ) (k number : ℕ) → is_quarter rule levels (suc (suc k)) number ≡ is_child levels (suc k) number
quarter-high rule levels k number = rw (suc_suc_not_one k, less_one (suc k)) refl

child-test : (lines : List Line) (i level number : ℕ) → i ≤ length lines → is_child (map level_of (take i lines)) level number ≡ true
    → IsChild lines i level number
child-test lines i level zero h e = inl refl
child-test lines i level (suc j) h e =
    let r = level-take lines i j level h (sym (child-suc (map level_of (take i lines)) level j) ∙ e) in
    inr (omega arith, omega (arith, r.0), subst (λ n. level_of (line_at lines n) ≡ level) (sym (less_one j)) r.1)

test-child : (lines : List Line) (i level number : ℕ) → i ≤ length lines → IsChild lines i level number → is_child (map level_of (take i lines)) level number
    ≡ true
test-child lines i level zero h c = refl
test-child lines i level (suc j) h (inl e) = absurd (omega arith)
test-child lines i level (suc j) h (inr c) = child-suc (map level_of (take i lines)) level j
    ∙ take-level lines i j level h (omega arith) (subst (λ n. level_of (line_at lines n) ≡ level) (less_one j) c.2)

le-test : (a b : ℕ) → nat_le a b ≡ true → a < suc b
le-test a b h = grind (arith, nat_tests)

test-le : (a b : ℕ) → a < suc b → nat_le a b ≡ true
test-le a b h = grind (arith, nat_tests)

pub quarter-test : (rule : Rule) (lines : List Line) (i k number : ℕ) → i ≤ length lines → is_quarter rule (map level_of (take i lines)) (suc k) number ≡ true
    → IsQuarter rule lines i k number
quarter-test rule lines i zero number h e = le-test number (largest_state rule) e
quarter-test rule lines i (suc k) number h e = child-test lines i (suc k) number h (sym (quarter-high rule (map level_of (take i lines)) k number) ∙ e)

pub test-quarter : (rule : Rule) (lines : List Line) (i k number : ℕ) → i ≤ length lines → IsQuarter rule lines i k number
    → is_quarter rule (map level_of (take i lines)) (suc k) number ≡ true
test-quarter rule lines i zero number h q = test-le number (largest_state rule) q
test-quarter rule lines i (suc k) number h q = quarter-high rule (map level_of (take i lines)) k number ∙ test-child lines i (suc k) number h q

pub record Four (a b c d : Bool) : Type 0 where
  pub first : a ≡ true
  pub second : b ≡ true
  pub third : c ≡ true
  pub fourth : d ≡ true

pub four-of : (f : ℕ → Bool) (a b c d : ℕ) → list_all f (a ∷ b ∷ c ∷ d ∷ []) ≡ true → Four (f a) (f b) (f c) (f d)
four-of f a b c d h = record { first = grind arith; second = grind arith; third = grind arith; fourth = grind arith }

all-four : (f : ℕ → Bool) (a b c d : ℕ) → f a ≡ true → f b ≡ true → f c ≡ true → f d ≡ true → list_all f (a ∷ b ∷ c ∷ d ∷ []) ≡ true
all-four f a b c d p q r s = grind arith

-- ---- lines that are squares, by their index

pub square-valid : (top : ℕ) (rule : Rule) (lines : List Line) (i : ℕ) (line : Line) → i ≤ length lines → IsSquare top rule (map level_of (take i lines)) line
    → IsValidLine top rule lines i line
square-valid top rule lines i (Leaf rows) h s = s
square-valid top rule lines i (Quad level a b c d) h s = by level s
  where
    by : (level : ℕ) → IsSquare top rule (map level_of (take i lines)) (Quad level a b c d) → IsValidLine top rule lines i (Quad level a b c d)
    by zero s = absurd (omega (arith, s.0))
    by (suc k) s =
        let v = four-of (is_quarter rule (map level_of (take i lines)) (suc k)) a b c d s.2 in
        let into = λ (number : ℕ) (e : is_quarter rule (map level_of (take i lines)) (suc k) number ≡ true).
        subst (λ n. IsQuarter rule lines i n number) (sym (less_one k)) (quarter-test rule lines i k number h e) in
        (s.0, s.1, into a v.first, into b v.second, into c v.third, into d v.fourth)

pub valid-square : (top : ℕ) (rule : Rule) (lines : List Line) (i : ℕ) (line : Line) → i ≤ length lines → IsValidLine top rule lines i line
    → IsSquare top rule (map level_of (take i lines)) line
valid-square top rule lines i (Leaf rows) h s = s
valid-square top rule lines i (Quad level a b c d) h s = by level s
  where
    by : (level : ℕ) → IsValidLine top rule lines i (Quad level a b c d) → IsSquare top rule (map level_of (take i lines)) (Quad level a b c d)
    by zero s = absurd (omega (arith, s.0))
    by (suc k) s =
        let into = λ (number : ℕ) (q : IsQuarter rule lines i (suc k - 1) number).
        test-quarter rule lines i k number h (subst (λ n. IsQuarter rule lines i n number) (less_one k) q) in
        (s.0, s.1, all-four (is_quarter rule (map level_of (take i lines)) (suc k)) a b c d (into a s.2) (into b s.3) (into c s.4) (into d s.5))

pub squares-valid : (top : ℕ) (rule : Rule) (lines : List Line) → AreSquares top rule lines → AreValidLines top rule lines
squares-valid top rule lines s i h = square-valid top rule lines i (line_at lines i) (omega arith) (s i (line_at lines i) (get-line_at lines i h))

pub valid-squares : (top : ℕ) (rule : Rule) (lines : List Line) → AreValidLines top rule lines → AreSquares top rule lines
valid-squares top rule lines v k line e =
    let r = line_at-get lines k line e in
    valid-square top rule lines k line (omega (arith, r.0)) (subst (IsValidLine top rule lines k) r.1 (v k r.0))

-- the level of the root is that of the last line
pub root_level-last : (lines : List Line) → 0 < length lines → root_level lines ≡ level_of (line_at lines (length lines - 1))
root_level-last [] h = absurd (omega arith)
root_level-last (line ∷ []) h = refl
root_level-last (line ∷ next ∷ lines) h =
    let e : suc (length lines) - 1 ≡ length lines = less_one (length lines) in
    let f : suc (suc (length lines)) - 1 ≡ suc (length lines) = less_one (suc (length lines)) in
    root_level-last (next ∷ lines) (omega arith) ∙ ap (λ n. level_of (line_at (next ∷ lines) n)) e
    ∙ sym (ap (λ n. level_of (line_at (line ∷ next ∷ lines) n)) f)

-- ---- a square of given states

pub tree_at-depth : (f : ℕ → ℕ → ℕ) (k x y : ℕ) → HasDepth k (tree_at f k x y)
tree_at-depth f zero x y = point_depth
tree_at-depth f (suc k) x y = quad_depth (tree_at-depth f k _ _) (tree_at-depth f k _ _) (tree_at-depth f k _ _) (tree_at-depth f k _ _)
