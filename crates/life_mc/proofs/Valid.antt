-- The squares of a file are squares.
use Rattle.std.proofs.Common.{◌≡◌, ℕ, zero, suc, ◌<◌, ◌≤◌, List, [], ◌∷◌, ◌++◌, length, take, drop, get_or, map, Bool, true, false, cond, not, ◌&&◌, ◌||◌, refl, ap, sym, subst, ◌∙◌, arith, length-append, add-one, ◌⊎◌, inl, inr, eqb-true, append-nil, codes, nat_le, nat_lt, ◌==◌, Option, Some, None, filter_map, slice_index, replicate, length-take-le, leb-true, ltb-false}
use Rattle.std.specs.List.{list_all, AllByRecursion, slice_get}
use Rattle.std.specs.Result.{result_ok, result_err}
use Rattle.std.proofs.Math.Seq.{take-length, take-append_seam}
use Rattle.std.proofs.lemmas.List.{take_more, take-append-le}
use Rattle.std.proofs.lemmas.List.Elements.{filter_map-append}
use Rattle.std.proofs.lemmas.Bool.{not-true, false_from_ne_true}
use Rattle.life_base.specs.Text.{is_blank, is_whitespace, begins_with, trim, is_too_long, words_of, value_of, is_digit_text}
use Rattle.life_base.specs.Rules.{rule_of, default_rule}
use Rattle.life_base.specs.Numbers.{u64_of}
use Rattle.life_base.specs.declared.kind.Kind.{Kind}
use Rattle.life_base.specs.declared.kind.Kind.TheVariants.{BadLevel, BadChild, BadLeaf, StateRange, Timeline, LateHeader, LineTooLong}
use Rattle.life_base.specs.declared.rule.Rule.{Rule}
use Rattle.life_base.proofs.Refusals.{UnbrokenBelow}
use Rattle.life_base.proofs.Basics.{right_of_and, left_of_and, cond_le}
use Rattle.life_mc.specs.Macrocell.{AreSquares, IsSquare, level_of, is_quarter}
use Rattle.life_mc.specs.Reading.{AcceptsMacrocell, broken_rule, broken_rule_after, broken_by_node, broken_by_square, missing_macrocell_part, squares_of, square_on, square_of_text, rule_in_force, rule_on, last_or, is_letter_command, is_node_line, is_leaf_byte, is_leaf, leaf_bytes, leaf_rows, byte_of_row, quad_of_numbers}
use Rattle.life_mc.specs.declared.line.Line.{Line}
use Rattle.life_mc.specs.declared.line.Line.TheVariants.{Leaf, Quad}
use Rattle.life_mc.proofs.ReadLines.{squares_none, squares_some}

module _ (top : ℕ) where
  -- ---- tests in a cascade

  passed : (v : Bool) (kind : Kind) (rest : Option Kind) → cond v (Some kind) rest ≡ None → (v ≡ false) × (rest ≡ None)
  passed true kind rest h = cc
  passed false kind rest h = (refl, h)

  not_consumed : (v : Bool) (a b : Option Kind) → v ≡ false → cond v a b ≡ None → b ≡ None
  not_consumed true a b e h = cc
  not_consumed false a b e h = h

  true_true : (v : Bool) → v ≡ true → (v && true) ≡ true
  true_true true h = refl
  true_true false h = cc

  -- ---- the first byte of a command

  pub command_is_hash : (c : ℕ) (line : List ℕ) → is_letter_command c line ≡ true → begins_with line (codes "#") ≡ true
  command_is_hash c [] h = cc
  command_is_hash c (a ∷ []) h = let k : (a == 35) ≡ true = left_of_and _ _ (left_of_and _ _ h) in true_true _ k
  command_is_hash c (a ∷ b ∷ rest) h = let k : (a == 35) ≡ true = left_of_and _ _ (left_of_and _ _ h) in true_true _ k

  pub no_command : (c : ℕ) (line : List ℕ) → begins_with line (codes "#") ≡ false → is_letter_command c line ≡ false
  no_command c line h = false_from_ne_true _ (λ k. let t = command_is_hash c line k in cc)

  pub hash_not_blank : (line : List ℕ) → begins_with line (codes "#") ≡ true → is_blank line ≡ false
  hash_not_blank [] h = cc
  hash_not_blank (a ∷ line) h = let e : a ≡ 35 = eqb-true a 35 (left_of_and _ _ h) in ap (λ b. is_whitespace b && list_all is_whitespace line) e

  -- ---- what a line that breaks no rule after a header says

  module _ (header : List ℕ) (lines : List (List ℕ)) where
    abbrev before : List (List ℕ)
    before = header ∷ lines

    behind : (line : List ℕ) → broken_rule top before line ≡ None → broken_rule_after top before line ≡ None
    unfolding broken_rule
    behind line e = (passed (is_too_long line) LineTooLong _ e).1

    node_stands : (line : List ℕ) → broken_rule_after top before line ≡ None → is_node_line line ≡ true
        → broken_by_node top (rule_in_force before) (map level_of (squares_of before)) (trim line) ≡ None
    node_stands line e n =
        let blank : is_blank line ≡ false = not-true _ (left_of_and _ (not (begins_with line (codes "#"))) n) in
        let hash : begins_with line (codes "#") ≡ false = not-true _ (right_of_and (not (is_blank line)) _ n) in
        let s1 = not_consumed (is_blank line) None _ blank e in
        let s2 = (passed (begins_with line (codes "#FRAME")) Timeline _ s1).1 in
        let s3 = (passed ((is_letter_command 82 line || is_letter_command 71 line) && nat_lt 0 (length (map level_of (squares_of before)))) LateHeader _
        s2).1 in
        let s4 = not_consumed (is_letter_command 82 line) (result_err (rule_of (drop 2 line))) _ (no_command 82 line hash) s3 in
        let s5 = not_consumed (is_letter_command 71 line) (result_err (u64_of (trim (drop 2 line)))) _ (no_command 71 line hash) s4 in
        not_consumed (begins_with line (codes "#")) None _ hash s5

    rule_stands : (line : List ℕ) → broken_rule_after top before line ≡ None → is_letter_command 82 line ≡ true → squares_of before ≡ []
    rule_stands line e r =
        let hash = command_is_hash 82 line r in
        let s1 = not_consumed (is_blank line) None _ (hash_not_blank line hash) e in
        let s2 = (passed (begins_with line (codes "#FRAME")) Timeline _ s1).1 in
        let some : Bool = nat_lt 0 (length (map level_of (squares_of before))) in
        let p : ((is_letter_command 82 line || is_letter_command 71 line) && some) ≡ false =
        (passed ((is_letter_command 82 line || is_letter_command 71 line) && some) LateHeader _ s2).0 in
        let q : some ≡ false = ap (λ v. (v || is_letter_command 71 line) && some) (sym r) ∙ p in
        none_there (squares_of before) q
      where
        none_there : (xs : List Line) → nat_lt 0 (length (map level_of xs)) ≡ false → xs ≡ []
        none_there [] h = refl
        none_there (x ∷ xs) h = let l : suc (length (map level_of xs)) ≤ 0 = ltb-false 0 (suc (length (map level_of xs))) h in absurd (omega arith)

  -- ---- a square that breaks no rule is one

  all_ok : (v w : Bool) (k m : Kind) → cond v None (cond w (Some k) (Some m)) ≡ None → v ≡ true
  all_ok true w k m h = refl
  all_ok false true k m h = cc
  all_ok false false k m h = cc

  quad_is_square : (rule : Rule) (levels : List ℕ) (level nw ne sw se : ℕ) → broken_by_square top rule levels (Some (Quad level nw ne sw se)) ≡ None
      → IsSquare top rule levels (Quad level nw ne sw se)
  quad_is_square rule levels level nw ne sw se h =
      let p = passed (not (nat_le 1 level && nat_le level top)) BadLevel _ h in
      let r : (nat_le 1 level && nat_le level top) ≡ true = not_false _ p.0 in (
        leb-true 1 level (left_of_and _ _ r),
        leb-true level top (right_of_and (nat_le 1 level) _ r),
        all_ok (list_all (is_quarter rule levels level) (nw ∷ ne ∷ sw ∷ se ∷ [])) (level == 1) StateRange BadChild p.1,
      )
    where
      not_false : (v : Bool) → not v ≡ false → v ≡ true
      not_false true h = refl
      not_false false h = cc

  pub row_fits : (row : List ℕ) → byte_of_row row < 256
  row_fits row = omega (
    arith,
    cond_le (slice_index row 0 == 42) 128,
    cond_le (slice_index row 1 == 42) 64,
    cond_le (slice_index row 2 == 42) 32,
    cond_le (slice_index row 3 == 42) 16,
    cond_le (slice_index row 4 == 42) 8,
    cond_le (slice_index row 5 == 42) 4,
    cond_le (slice_index row 6 == 42) 2,
    cond_le (slice_index row 7 == 42) 1,
  )

  rows_fit : (n : ℕ) (rows : List (List ℕ)) (empties : ℕ) → AllByRecursion (λ row. row < 256) (take n (map byte_of_row rows ++ replicate empties 0))
  rows_fit zero rows empties = tt
  rows_fit (suc n) [] zero = tt
  rows_fit (suc n) [] (suc empties) = (omega arith, rows_fit n [] empties)
  rows_fit (suc n) (row ∷ rows) empties = (row_fits row, rows_fit n rows empties)

  eight : (rows : List (List ℕ)) → length (take 8 (map byte_of_row rows ++ replicate 8 0)) ≡ 8
  eight rows = length-take-le 8 (map byte_of_row rows ++ replicate 8 0) (omega (arith, length-append (map byte_of_row rows) (replicate 8 0)))

  no_leaf : (ns : List ℕ) (rows : List ℕ) → quad_of_numbers ns ≡ Some (Leaf rows) → ⊥
  no_leaf [] rows h = cc
  no_leaf (a ∷ []) rows h = cc
  no_leaf (a ∷ b ∷ []) rows h = cc
  no_leaf (a ∷ b ∷ c ∷ []) rows h = cc
  no_leaf (a ∷ b ∷ c ∷ d ∷ []) rows h = cc
  no_leaf (a ∷ b ∷ c ∷ d ∷ e ∷ []) rows h = cc
  no_leaf (a ∷ b ∷ c ∷ d ∷ e ∷ f ∷ ns) rows h = cc

  which_rows : (u v w : Bool) (text rows ns : List ℕ) → cond u (cond v (Some (Leaf (leaf_bytes text))) None) (cond w (quad_of_numbers ns) None)
      ≡ Some (Leaf rows)
      → rows ≡ leaf_bytes text
  which_rows true true w text rows ns h = cc
  which_rows true false w text rows ns h = cc
  which_rows false v true text rows ns h = absurd (no_leaf ns rows h)
  which_rows false v false text rows ns h = cc

  node_is_square : (rule : Rule) (levels : List ℕ) (text : List ℕ) (square : Line) → broken_by_node top rule levels text ≡ None → square_of_text text
      ≡ Some square
      → IsSquare top rule levels square
  node_is_square rule levels text (Leaf rows) h e =
      let r : rows ≡ leaf_bytes text = which_rows (is_leaf_byte (slice_index text 0)) (is_leaf text) (list_all is_digit_text (words_of text)) text rows
      (map value_of (words_of text)) e in
      let P : List ℕ → Type 0 = λ rs. (length rs ≡ 8) × AllByRecursion (λ row. row < 256) rs in
      subst P (sym r) (eight (leaf_rows text), rows_fit 8 (leaf_rows text) 8)
  node_is_square rule levels text (Quad level nw ne sw se) h e =
      let s = (passed (is_leaf_byte (slice_index text 0) && not (is_leaf text)) BadLeaf _ h).1 in
      quad_is_square rule levels level nw ne sw se (ap (broken_by_square top rule levels) (sym e) ∙ s)

  -- ---- one line more

  got : (xs : List Line) (square : Line) (k : ℕ) (line : Line) → slice_get (xs ++ square ∷ []) k ≡ Some line
      → ((k < length xs) × (slice_get xs k ≡ Some line)) ⊎ ((k ≡ length xs) × (square ≡ line))
  got [] square zero line h = inr (refl, cc)
  got [] square (suc k) line h = cc
  got (x ∷ xs) square zero line h = inl (omega arith, h)
  got (x ∷ xs) square (suc k) line h = elim (got xs square k line h) [ inl p ↦ inl (omega (arith, p.0), p.1) | inr p ↦ inr (ap suc p.0, p.1) ]

  add_square : (rule : Rule) (xs : List Line) (square : Line) → AreSquares top rule xs → IsSquare top rule (map level_of xs) square
      → AreSquares top rule (xs ++ square ∷ [])
  add_square rule xs square v s = λ k line g. elim (got xs square k line g) [
    | inl p ↦ (let P : List Line → Type 0 = λ ys. IsSquare top rule (map level_of ys) line in
        subst P (sym (take-append-le k xs (square ∷ []) (omega (arith, p.0)))) (v k line p.1))
    | inr p ↦ (let P : List Line → Type 0 = λ ys. IsSquare top rule (map level_of ys) line in
        let Q : Line → Type 0 = λ l. IsSquare top rule (map level_of xs) l in
        subst P (sym (ap (λ j. take j (xs ++ square ∷ [])) p.0 ∙ take-append_seam xs (square ∷ []))) (subst Q p.1 s))
  ]

  -- the squares of these lines are squares under the rule in force
  abbrev Valid : List (List ℕ) → Type 0
  Valid lines = AreSquares top (rule_in_force lines) (squares_of lines)

  no_squares : (rule : Rule) → AreSquares top rule []
  no_squares rule = λ k line g. cc

  none_on : (line : List ℕ) → rule_on line ≡ None → filter_map rule_on (line ∷ []) ≡ []
  none_on line h = rw h refl

  rule_same : (header : List ℕ) (lines : List (List ℕ)) (line : List ℕ) → rule_on line ≡ None → rule_in_force (header ∷ (lines ++ line ∷ []))
      ≡ rule_in_force (header ∷ lines)
  rule_same header lines line h =
      ap (last_or default_rule) (filter_map-append rule_on lines (line ∷ []) ∙ ap (λ (t : List Rule). filter_map rule_on lines ++ t) (none_on line h)
      ∙ append-nil (filter_map rule_on lines))

  consumed : {X : Type 0} (v : Bool) (o : Option X) (x : X) → cond v o None ≡ Some x → (v ≡ true) × (o ≡ Some x)
  consumed true o x h = (refl, h)
  consumed false o x h = cc

  not_command : (v : Bool) (o : Option Rule) → v ≡ false → cond v o None ≡ None
  not_command true o h = cc
  not_command false o h = refl

  module _ (header : List ℕ) (lines : List (List ℕ)) (line : List ℕ) (e : broken_rule top (header ∷ lines) line ≡ None) (v : Valid (header ∷ lines)) where
    stands : broken_rule_after top (header ∷ lines) line ≡ None
    stands = behind header lines line e

    with_rule : (r : Option Rule) → rule_on line ≡ r → square_on line ≡ None → Valid (header ∷ (lines ++ line ∷ []))
    with_rule None h s =
        let P : List Line → Type 0 = λ xs. AreSquares top (rule_in_force (header ∷ (lines ++ line ∷ []))) xs in
        let Q : Rule → Type 0 = λ rule. AreSquares top rule (squares_of (header ∷ lines)) in
        subst P (sym (squares_none (header ∷ lines) line s)) (subst Q (sym (rule_same header lines line h)) v)
    with_rule (Some rule) h s =
        let c : is_letter_command 82 line ≡ true = (consumed (is_letter_command 82 line) (result_ok (rule_of (drop 2 line))) rule h).0 in
        let P : List Line → Type 0 = λ xs. AreSquares top (rule_in_force (header ∷ (lines ++ line ∷ []))) xs in
        subst P (sym (squares_none (header ∷ lines) line s ∙ rule_stands header lines line stands c)) (no_squares _)

    with_square : (o : Option Line) → square_on line ≡ o → Valid (header ∷ (lines ++ line ∷ []))
    with_square None h = with_rule (rule_on line) refl h
    with_square (Some square) h =
        let t = consumed (is_node_line line) (square_of_text (trim line)) square h in
        let hash : begins_with line (codes "#") ≡ false = not-true _ (right_of_and (not (is_blank line)) _ t.0) in
        let none : rule_on line ≡ None = not_command (is_letter_command 82 line) (result_ok (rule_of (drop 2 line))) (no_command 82 line hash) in
        let is : IsSquare top (rule_in_force (header ∷ lines)) (map level_of (squares_of (header ∷ lines))) square =
        node_is_square _ _ (trim line) square (node_stands header lines line stands t.0) t.1 in
        let P : List Line → Type 0 = λ xs. AreSquares top (rule_in_force (header ∷ (lines ++ line ∷ []))) xs in
        let Q : Rule → Type 0 = λ rule. AreSquares top rule (squares_of (header ∷ lines) ++ square ∷ []) in
        subst P (sym (squares_some (header ∷ lines) line square h)) (subst Q (sym (rule_same header lines line none)) (add_square _ _ square v is))

  step : (before : List (List ℕ)) (line : List ℕ) → broken_rule top before line ≡ None → Valid before → Valid (before ++ line ∷ [])
  step [] line e v = no_squares default_rule
  step (header ∷ lines) line e v = with_square header lines line e v (square_on line) refl

  up_to : (lines : List (List ℕ)) → UnbrokenBelow (AcceptsMacrocell top) (broken_rule top) missing_macrocell_part lines (length lines) → (n : ℕ)
      → n ≤ length lines → Valid (take n lines)
  up_to lines u zero h = no_squares default_rule
  up_to lines u (suc n) h =
      let more : take n lines ++ get_or lines n [] ∷ [] ≡ take (suc n) lines = sym (take_more lines n [] (omega arith)) ∙ ap (λ k. take k lines) (add-one n) in
      subst Valid more (step (take n lines) (get_or lines n []) (u n (omega arith)) (up_to lines u n (omega arith)))

  -- Where no line breaks a rule, each square is one under the rule in force at the end: no `#R` comes after a square.
  pub squares_valid : (lines : List (List ℕ)) → UnbrokenBelow (AcceptsMacrocell top) (broken_rule top) missing_macrocell_part lines (length lines)
      → AreSquares top (rule_in_force lines) (squares_of lines)
  squares_valid lines u = subst Valid (take-length lines) (up_to lines u (length lines) (omega arith))
