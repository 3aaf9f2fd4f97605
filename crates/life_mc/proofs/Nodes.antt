-- Node lines whose numbers are read into a type with a greatest number.
use Rattle.std.proofs.Common.{◌≡◌, ℕ, zero, suc, ◌-◌, ◌^◌, ◌<◌, ◌≤◌, List, [], ◌∷◌, length, map, Bool, true, false, cond, not, ◌&&◌, ◌||◌, refl, ap, sym, ◌∙◌, arith, ◌⊎◌, inl, inr, true≢false, Option, Some, None, ◌==◌, nat_le, slice_index, Result, Ok, Err, MatchResult}
use Rattle.std.specs.List.{list_all}
use Rattle.std.proofs.lemmas.Bool.{lt-leb}
use Rattle.std.proofs.lemmas.Bool.Decides.{nat_tests}
use Rattle.std.proofs.lemmas.Option.{slice_get_past, same_Some}
use Rattle.life_mc.proofs.TestFacts.{all_four, few_states}
use mathlib.Core.Bool.{and-false}
use Rattle.life_base.specs.Text.{words_of, value_of, is_digit_text}
use Rattle.life_base.specs.declared.kind.Kind.{Kind}
use Rattle.life_base.specs.declared.kind.Kind.TheVariants.{BadLevel, BadChild, BadNode, BadLeaf, StateRange}
use Rattle.life_base.specs.declared.rule.Rule.{Rule}
use Rattle.life_mc.specs.Macrocell.{is_quarter, is_child, is_level, item_of_number, largest_state}
use Rattle.life_mc.specs.Reading.{broken_by_square, broken_by_node, square_of_text, quad_of_numbers, is_leaf_byte, is_leaf, leaf_bytes}
use Rattle.life_base.specs.Numbers.{capped_number}
use Rattle.life_mc.specs.Standing.{quad_words}
use Rattle.life_mc.specs.declared.line.Line.{Line}
use Rattle.life_mc.specs.declared.line.Line.TheVariants.{Leaf, Quad}

pub match_map : {X E : Type 0} {P P' : X → Type 0} {Q Q' : E → Type 0} (r : Result X E) → MatchResult r P Q → ((x : X) → P x → P' x) → ((e : E) → Q e → Q' e)
    → MatchResult r P' Q'
match_map (Ok x) h f g = f x h
match_map (Err e) h f g = g e h

abbrev top_number : ℕ
top_number = 2 ^ 64 - 1

-- a number is reported as it is, or it is above each bound that matters
small_or_large : (n : ℕ) → (capped_number n ≡ n) ⊎ ((top_number < n) × (capped_number n ≡ top_number))
small_or_large n = grind arith

numbered_past : (levels : List ℕ) (n : ℕ) → length levels < n → item_of_number levels n ≡ None
numbered_past levels zero h = absurd (omega arith)
numbered_past levels (suc i) h = slice_get_past levels i (omega arith)

not_zero_number : (n : ℕ) → 0 < n → (n == 0) ≡ false
not_zero_number n h = grind (arith, nat_tests)

no_child : (levels : List ℕ) (level n : ℕ) → length levels < n → is_child levels level n ≡ false
no_child levels level n h =
    ap (λ v. v || is_level level (item_of_number levels n)) (not_zero_number n (omega arith)) ∙ ap (is_level level) (numbered_past levels n h)

no_quarter : (rule : Rule) (levels : List ℕ) (level n : ℕ) → length levels < n → 255 < n → is_quarter rule levels level n ≡ false
no_quarter rule levels level n h l = by (level == 1)
  where
    by : (v : Bool) → cond v (nat_le n (largest_state rule)) (is_child levels (level - 1) n) ≡ false
    by true = lt-leb n (largest_state rule) (omega (arith, (few_states rule).1))
    by false = no_child levels (level - 1) n h

module _ (top : ℕ) (rule : Rule) (levels : List ℕ) (low : top ≤ 255) (few : length levels < top_number) where
  -- a number as it is reported may stand for a quarter just if it may itself
  quarter_same : (level n : ℕ) → is_quarter rule levels level (capped_number n) ≡ is_quarter rule levels level n
  quarter_same level n = elim (small_or_large n) [
    | inl e ↦ ap (is_quarter rule levels level) e
    | inr l ↦ ap (is_quarter rule levels level) l.1 ∙ no_quarter rule levels level top_number few (omega arith)
        ∙ sym (no_quarter rule levels level n (omega (arith, l.0)) (omega (arith, l.0)))
  ]

  quarter_is : (level n : ℕ) → is_quarter rule levels level (capped_number n) ≡ true → capped_number n ≡ n
  quarter_is level n h = elim (small_or_large n) [
    | inl e ↦ e
    | inr l ↦ (let f : is_quarter rule levels level (capped_number n) ≡ false = ap (is_quarter rule levels level) l.1
        ∙ no_quarter rule levels level top_number few (omega arith) in
        absurd (true≢false (sym h ∙ f)))
  ]

  abbrev judged : Bool → Bool → Bool → Option Kind
  judged v w one = cond (not v) (Some BadLevel) (cond w None (cond one (Some StateRange) (Some BadChild)))

  quarters_same : (level nw ne sw se : ℕ)
      → list_all (is_quarter rule levels level) (capped_number nw ∷ capped_number ne ∷ capped_number sw ∷ capped_number se ∷ [])
      ≡ list_all (is_quarter rule levels level)
      (nw ∷ ne ∷ sw ∷ se ∷ [])
  quarters_same level nw ne sw se = rw (quarter_same level nw, quarter_same level ne, quarter_same level sw, quarter_same level se) refl

  level_low : (n : ℕ) → top_number < n → (nat_le 1 n && nat_le n top) ≡ false
  level_low n h = ap (λ v. nat_le 1 n && v) (lt-leb n top (omega arith)) ∙ and-false (nat_le 1 n)

  level_high : (nat_le 1 top_number && nat_le top_number top) ≡ false
  level_high = lt-leb top_number top (omega arith)

  abbrev judge : ℕ → ℕ → ℕ → ℕ → ℕ → Option Kind
  judge level nw ne sw se = broken_by_square top rule levels (Some (Quad level nw ne sw se))

  -- the same of a level and four quarters
  numbers_same : (level nw ne sw se : ℕ) → judge (capped_number level) (capped_number nw) (capped_number ne) (capped_number sw) (capped_number se)
      ≡ judge level nw ne sw se
  numbers_same level nw ne sw se = elim (small_or_large level) [
    | inl e ↦ ap (λ l. judge l (capped_number nw) (capped_number ne) (capped_number sw) (capped_number se)) e
        ∙ ap (λ w. judged (nat_le 1 level && nat_le level top) w (level == 1)) (quarters_same level nw ne sw se)
    | inr l ↦ ap (λ k. judge k (capped_number nw) (capped_number ne) (capped_number sw) (capped_number se)) l.1
        ∙ ap (λ v. judged v (list_all (is_quarter rule levels top_number) (capped_number nw ∷ capped_number ne ∷ capped_number sw ∷ capped_number se ∷ []))
        (top_number == 1)) level_high
        ∙ sym (ap (λ v. judged v (list_all (is_quarter rule levels level) (nw ∷ ne ∷ sw ∷ se ∷ [])) (level == 1)) (level_low level l.0))
  ]

  none_judged : (v w one : Bool) → judged v w one ≡ None → (v ≡ true) × (w ≡ true)
  none_judged true true one h = (refl, refl)
  none_judged true false true h = cc
  none_judged true false false h = cc
  none_judged false w one h = cc

  level_is : (level : ℕ) → (nat_le 1 (capped_number level) && nat_le (capped_number level) top) ≡ true → capped_number level ≡ level
  level_is level h = elim (small_or_large level) [
    | inl e ↦ e
    | inr l ↦ absurd (true≢false (sym h ∙ ap (λ n. nat_le 1 n && nat_le n top) l.1 ∙ level_high))
  ]

  -- numbers that break no rule are reported as they are
  numbers_are : (level nw ne sw se : ℕ) → judge (capped_number level) (capped_number nw) (capped_number ne) (capped_number sw) (capped_number se) ≡ None
      → Quad (capped_number level) (capped_number nw) (capped_number ne) (capped_number sw) (capped_number se) ≡ Quad level nw ne sw se
  numbers_are level nw ne sw se h =
      let k = capped_number level in
      let p = none_judged (nat_le 1 k && nat_le k top)
      (list_all (is_quarter rule levels k) (capped_number nw ∷ capped_number ne ∷ capped_number sw ∷ capped_number se ∷ [])) (k == 1) h in
      let q = all_four (is_quarter rule levels k (capped_number nw)) (is_quarter rule levels k (capped_number ne)) (is_quarter rule levels k (capped_number sw))
      (is_quarter rule levels k (capped_number se)) p.1 in
      rw (level_is level p.0, quarter_is k nw q.0, quarter_is k ne q.1, quarter_is k sw q.2, quarter_is k se q.3) refl

  abbrev plain : Bool → List (List ℕ) → Option Line
  plain v words = cond v (quad_of_numbers (map value_of words)) None

  abbrev meaning : Bool → List (List ℕ) → Option Line
  meaning v words = cond v (quad_of_numbers (map (λ word. capped_number (value_of word)) words)) None

  quad_by : (v : Bool) (words : List (List ℕ)) (q : Line) → Some q ≡ meaning v words
      → (broken_by_square top rule levels (Some q) ≡ broken_by_square top rule levels (plain v words))
      × (broken_by_square top rule levels (Some q) ≡ None → plain v words ≡ Some q)
  quad_by false words q h = absurd (no h)
    where
      no : Some q ≡ None → ⊥
      no e = cc
  quad_by true (a ∷ b ∷ c ∷ d ∷ e ∷ []) q h =
      let is = same_Some q (Quad (capped_number (value_of a)) (capped_number (value_of b)) (capped_number (value_of c)) (capped_number (value_of d))
      (capped_number (value_of e))) h in (
        ap (λ s. broken_by_square top rule levels (Some s)) is ∙ numbers_same (value_of a) (value_of b) (value_of c) (value_of d) (value_of e),
        λ n. ap Some (sym (is ∙ numbers_are (value_of a) (value_of b) (value_of c) (value_of d) (value_of e)
            (ap (λ s. broken_by_square top rule levels (Some s)) (sym is) ∙ n))),
      )
  quad_by true [] q h = cc
  quad_by true (a ∷ []) q h = cc
  quad_by true (a ∷ b ∷ []) q h = cc
  quad_by true (a ∷ b ∷ c ∷ []) q h = cc
  quad_by true (a ∷ b ∷ c ∷ d ∷ []) q h = cc
  quad_by true (a ∷ b ∷ c ∷ d ∷ e ∷ f ∷ words) q h = cc

  none_by : (v : Bool) (words : List (List ℕ)) → None ≡ meaning v words → plain v words ≡ None
  none_by false words h = refl
  none_by true (a ∷ b ∷ c ∷ d ∷ e ∷ []) h = cc
  none_by true [] h = refl
  none_by true (a ∷ []) h = refl
  none_by true (a ∷ b ∷ []) h = refl
  none_by true (a ∷ b ∷ c ∷ []) h = refl
  none_by true (a ∷ b ∷ c ∷ d ∷ []) h = refl
  none_by true (a ∷ b ∷ c ∷ d ∷ e ∷ f ∷ words) h = refl

  module _ (text : List ℕ) (no_leaf : is_leaf_byte (slice_index text 0) ≡ false) where
    abbrev digits : Bool
    digits = list_all is_digit_text (words_of text)

    is_plain : square_of_text text ≡ plain digits (words_of text)
    is_plain = ap (λ v. cond v (cond (is_leaf text) (Some (Leaf (leaf_bytes text))) None) (plain digits (words_of text))) no_leaf

    is_judged : broken_by_node top rule levels text ≡ broken_by_square top rule levels (plain digits (words_of text))
    is_judged = ap (λ v. cond (v && not (is_leaf text)) (Some BadLeaf) (broken_by_square top rule levels (square_of_text text))) no_leaf
        ∙ ap (broken_by_square top rule levels) is_plain

    -- five numbers
    pub quad_read : (q : Line) → Some q ≡ quad_words (words_of text)
        → (broken_by_square top rule levels (Some q) ≡ broken_by_node top rule levels text)
        × (broken_by_square top rule levels (Some q) ≡ None → square_of_text text ≡ Some q)
    quad_read q h = let r = quad_by digits (words_of text) q h in (r.0 ∙ sym is_judged, λ n. is_plain ∙ r.1 n)

    -- no five numbers
    pub none_read : None ≡ quad_words (words_of text) → broken_by_node top rule levels text ≡ Some BadNode
    none_read h = is_judged ∙ ap (broken_by_square top rule levels) (none_by digits (words_of text) h)
