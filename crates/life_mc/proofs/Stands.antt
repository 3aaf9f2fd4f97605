-- What a reader keeps, line after line.
use Rattle.std.proofs.Common.{◌≡◌, ℕ, ◌+◌, ◌-◌, ◌^◌, ◌<◌, ◌≤◌, List, [], ◌∷◌, ◌++◌, length, take, drop, get_or, map, Bool, true, false, cond, not, ◌&&◌, refl, ap, sym, subst, ◌∙◌, arith, length-append, ◌⊎◌, inl, inr, Option, Some, None, codes, nat_lt, nat_le, Result, Ok, Err, MatchResult, filter_map, IfOk, OnOk, ◌==◌, append-nil, le-leb}
use Rattle.std.specs.Result.{result_ok, result_err}
use Rattle.std.specs.List.{slice_index_or, list_all}
use Rattle.std.proofs.lemmas.Bool.Decides.{nat_tests}
use Rattle.std.proofs.Math.Seq.{take-append_seam, get_or-append_seam}
use Rattle.std.proofs.Math.ListN.{get_or-append}
use Rattle.std.proofs.lemmas.List.{take-append-le, map-append}
use Rattle.std.proofs.lemmas.List.Elements.{filter_map-append}
use Rattle.life_base.specs.Text.{is_empty, begins_with, trim, is_blank, is_digit_text, value_of}
use Rattle.life_base.specs.Numbers.{u64_of}
use Rattle.life_base.specs.Rules.{default_rule, rule_of}
use Rattle.life_base.specs.declared.kind.Kind.{Kind}
use Rattle.life_base.specs.declared.kind.Kind.TheVariants.{LineTooLong, NoHeader, BadNumber, TooLarge, BadLevel, StateRange, BadChild}
use Rattle.life_base.specs.declared.rule.Rule.{Rule}
use Rattle.life_mc.specs.Macrocell.{level_of, IsSquare, is_quarter}
use Rattle.life_mc.specs.Reading.{broken_rule, broken_rule_after, is_letter_command, rule_in_force, generation_in_force, squares_of, square_after, square_on, rule_on, generation_on, last_or, broken_after, broken_by_square}
use Rattle.life_mc.specs.Grammar.{form_rule, form_generation, form_square}
use Rattle.std.specs.Option.{unwrap_or}
use Rattle.life_mc.specs.Standing.{Standing, StandsAfter, IsParsed, form_of, level_in}
use Rattle.life_mc.specs.declared.line.ParsedLine.{ParsedLine}
use Rattle.life_mc.specs.declared.line.Line.{Line}
use Rattle.life_mc.specs.declared.line.Line.TheVariants.{Leaf, Quad}
use Rattle.life_mc.proofs.Around.{commands, hash_no_square}
use Rattle.life_mc.proofs.Valid.{command_is_hash}
use Rattle.life_mc.proofs.ReadLines.{squares_none, squares_some}
use Rattle.life_base.proofs.Texts.{too_long, not_too_long}

-- ---- a generation

abbrev by_tests : Bool → Bool → ℕ → Result ℕ Kind
by_tests u v n = cond (not u) (Err BadNumber) (cond v (Ok n) (Err TooLarge))

test_each : (u v : Bool) (n : ℕ) → MatchResult (by_tests u v n) (λ m. (m ≡ n) × (result_err (by_tests u v n) ≡ None))
    (λ kind. result_err (by_tests u v n) ≡ Some kind)
test_each false v n = refl
test_each true true n = (refl, refl)
test_each true false n = refl

pub generation_read : (text : List ℕ) (r : Result ℕ Kind) → r ≡ u64_of text
    → MatchResult r (λ n. (n ≡ value_of text) × (result_err (u64_of text) ≡ None)) (λ kind. result_err (u64_of text) ≡ Some kind)
generation_read text r e =
    let P : Result ℕ Kind → Type 0 = λ s. MatchResult s (λ n. (n ≡ value_of text) × (result_err (u64_of text) ≡ None))
    (λ kind. result_err (u64_of text) ≡ Some kind) in
    subst P (sym e) (test_each (is_digit_text text) (nat_le (value_of text) (2 ^ 64 - 1)) (value_of text))

-- ---- which rule a line breaks

module _ (top : ℕ) (lines : List (List ℕ)) (line : List ℕ) where
  abbrev rest : Option Kind
  rest = cond (is_empty lines) (cond (begins_with line (codes "[M2]")) None (Some NoHeader)) (broken_rule_after top lines line)

  pub breaks_length : 2 ^ 20 < length line → broken_rule top lines line ≡ Some LineTooLong
  unfolding broken_rule
  breaks_length h = ap (λ v. cond v (Some LineTooLong) rest) (too_long line h)

  short : length line ≤ 2 ^ 20 → broken_rule top lines line ≡ rest
  unfolding broken_rule
  short h = ap (λ v. cond v (Some LineTooLong) rest) (not_too_long line h)

not-not : (v w : Bool) → v ≡ not w → v ≡ false → w ≡ true
not-not v true h k = refl
not-not v false h k = cc

not-true : (v w : Bool) → v ≡ not w → v ≡ true → w ≡ false
not-true v true h k = cc
not-true v false h k = refl

nothing : (lines : List (List ℕ)) → is_empty lines ≡ true → lines ≡ []
nothing [] h = refl
nothing (line ∷ lines) h = cc

module _ (top : ℕ) (lines : List (List ℕ)) (line : List ℕ) (old : Standing) (s : StandsAfter top lines old) (h : length line ≤ 2 ^ 20) where
  before_header : old.started ≡ false → lines ≡ []
  before_header f = nothing lines (not-not old.started (is_empty lines) s.started f)

  pub breaks_header : old.started ≡ false → begins_with line (codes "[M2]") ≡ false → broken_rule top lines line ≡ Some NoHeader
  breaks_header f b =
      short top lines line h ∙ ap (λ v. cond v (cond (begins_with line (codes "[M2]")) None (Some NoHeader)) (broken_rule_after top lines line))
      (not-not old.started (is_empty lines) s.started f)
      ∙ ap (λ v. cond v None (Some NoHeader)) b

  is_header : old.started ≡ false → begins_with line (codes "[M2]") ≡ true → broken_rule top lines line ≡ None
  is_header f b =
      short top lines line h ∙ ap (λ v. cond v (cond (begins_with line (codes "[M2]")) None (Some NoHeader)) (broken_rule_after top lines line))
      (not-not old.started (is_empty lines) s.started f)
      ∙ ap (λ v. cond v None (Some NoHeader)) b

  -- after the header what is kept decides
  pub broken_is : old.started ≡ true → broken_rule top lines line ≡ broken_after top old.rule old.levels line
  broken_is t =
      short top lines line h ∙ ap (λ v. cond v (cond (begins_with line (codes "[M2]")) None (Some NoHeader)) (broken_rule_after top lines line))
      (not-true old.started (is_empty lines) s.started t)
      ∙ ap (λ r. broken_after top r (map level_of (squares_of lines)) line) (sym s.rule)
      ∙ ap (λ ls. broken_after top old.rule ls line) (sym s.levels)

-- ---- one line more

unbroken_more : (top : ℕ) (lines : List (List ℕ)) (line : List ℕ)
    → ((k : ℕ) → k < length lines → broken_rule top (take k lines) (slice_index_or lines k []) ≡ None)
    → broken_rule top lines line ≡ None
    → (k : ℕ) → k < length (lines ++ line ∷ []) → broken_rule top (take k (lines ++ line ∷ [])) (slice_index_or (lines ++ line ∷ []) k []) ≡ None
unbroken_more top lines line u b k l = elim (below_or_at k (length lines) (omega (arith, length-append lines (line ∷ [])))) [
  | inl m ↦ (let e : take k (lines ++ line ∷ []) ≡ take k lines = take-append-le k lines (line ∷ []) (omega arith) in
      let f : get_or (lines ++ line ∷ []) k [] ≡ get_or lines k [] = get_or-append lines (line ∷ []) [] k m in
      rw (e, f) (u k m))
  | inr m ↦ (let e : take (length lines) (lines ++ line ∷ []) ≡ lines = take-append_seam lines (line ∷ []) in
      let f : get_or (lines ++ line ∷ []) (length lines) [] ≡ line = get_or-append_seam lines line [] [] in
      rw (m, e, f) b)
]
  where
    below_or_at : (k n : ℕ) → k < n + 1 → (k < n) ⊎ (k ≡ n)
    below_or_at k n h = grind arith

pub last_of : {X : Type 0} (x y : X) (xs : List X) → last_or x (xs ++ y ∷ []) ≡ y
last_of x y [] = refl
last_of x y (z ∷ xs) = last_of z y xs

-- the last of some values, with one more or none
one_more : {X Y : Type 0} (f : Y → Option X) (x : X) (ys : List Y) (y : Y) (o : Option X) → f y ≡ o
    → last_or x (filter_map f (ys ++ y ∷ [])) ≡ unwrap_or o (last_or x (filter_map f ys))
one_more {X = X} f x ys y None h =
    ap (last_or x) (filter_map-append f ys (y ∷ []) ∙ ap (λ (t : List X). filter_map f ys ++ t) (none_on h) ∙ append-nil (filter_map f ys))
  where
    none_on : f y ≡ None → filter_map f (y ∷ []) ≡ []
    none_on e = rw e refl
one_more {X = X} f x ys y (Some z) h =
    ap (last_or x) (filter_map-append f ys (y ∷ []) ∙ ap (λ (t : List X). filter_map f ys ++ t) (one_on h)) ∙ last_of x z (filter_map f ys)
  where
    one_on : f y ≡ Some z → filter_map f (y ∷ []) ≡ z ∷ []
    one_on e = rw e refl

pub rule_more : (lines : List (List ℕ)) (line : List ℕ) (o : Option Rule) → is_empty lines ≡ false → rule_on line ≡ o → rule_in_force (lines ++ line ∷ [])
    ≡ unwrap_or o (rule_in_force lines)
rule_more [] line o h e = cc
rule_more (header ∷ lines) line o h e = one_more rule_on default_rule lines line o e

generation_more : (lines : List (List ℕ)) (line : List ℕ) (o : Option ℕ) → is_empty lines ≡ false → generation_on line ≡ o
    → generation_in_force (lines ++ line ∷ []) ≡ unwrap_or o (generation_in_force lines)
generation_more [] line o h e = cc
generation_more (header ∷ lines) line o h e = one_more generation_on 0 lines line o e

square_here : (lines : List (List ℕ)) (line : List ℕ) → is_empty lines ≡ false → square_after lines line ≡ square_on line
square_here [] line h = cc
square_here (header ∷ lines) line h = refl

levels_more : (lines : List (List ℕ)) (line : List ℕ) (o : Option Line) → square_after lines line ≡ o
    → map level_of (squares_of (lines ++ line ∷ [])) ≡ map level_of (squares_of lines) ++ level_in o
levels_more lines line None h = ap (map level_of) (squares_none lines line h) ∙ sym (append-nil (map level_of (squares_of lines)))
levels_more lines line (Some square) h = ap (map level_of) (squares_some lines line square h) ∙ map-append level_of (squares_of lines) (square ∷ [])

some_lines : (lines : List (List ℕ)) (line : List ℕ) → true ≡ not (is_empty (lines ++ line ∷ []))
some_lines [] line = refl
some_lines (header ∷ lines) line = refl

module _ (top : ℕ) (lines : List (List ℕ)) (line : List ℕ) (old new : Standing) (s : StandsAfter top lines old) (h : length line ≤ 2 ^ 20) where
  -- the header
  pub stands_first : old.started ≡ false → begins_with line (codes "[M2]") ≡ true → new.started ≡ true → new.rule ≡ old.rule → new.generation ≡ old.generation
      → new.levels ≡ old.levels
      → (None ≡ square_after lines line) × StandsAfter top (lines ++ line ∷ []) new
  stands_first f b st r g l =
      let none = before_header top lines line old s h f in (
        sym (ap (λ ls. square_after ls line) none),
        record {
          unbroken = unbroken_more top lines line s.unbroken (is_header top lines line old s h f b);
          started = st ∙ some_lines lines line;
          rule = r ∙ s.rule ∙ ap rule_in_force none ∙ sym (ap (λ ls. rule_in_force (ls ++ line ∷ [])) none);
          generation = g ∙ s.generation ∙ ap generation_in_force none ∙ sym (ap (λ ls. generation_in_force (ls ++ line ∷ [])) none);
          levels = l ∙ s.levels ∙ ap (λ ls. map level_of (squares_of ls)) none ∙ sym (ap (λ ls. map level_of (squares_of (ls ++ line ∷ []))) none);
        },
      )

  -- a line after it
  pub stands_next : (parsed : ParsedLine) → let form = form_of parsed in
      old.started ≡ true → broken_after top old.rule old.levels line ≡ None → IsParsed line parsed
      → new.started ≡ old.started → new.rule ≡ unwrap_or (form_rule form) old.rule → new.generation ≡ unwrap_or (form_generation form) old.generation
      → new.levels ≡ old.levels ++ level_in (form_square form) → (form_square form ≡ square_after lines line) × StandsAfter top (lines ++ line ∷ []) new
  stands_next parsed t b tells st r g l =
      let form = form_of parsed in
      let some : is_empty lines ≡ false = not-true old.started (is_empty lines) s.started t in
      let here : square_after lines line ≡ form_square form = square_here lines line some ∙ tells.2 in (
        sym here,
        record {
          unbroken = unbroken_more top lines line s.unbroken (broken_is top lines line old s h t ∙ b);
          started = st ∙ t ∙ some_lines lines line;
          rule = r ∙ ap (unwrap_or (form_rule form)) s.rule ∙ sym (rule_more lines line (form_rule form) some tells.0);
          generation = g ∙ ap (unwrap_or (form_generation form)) s.generation ∙ sym (generation_more lines line (form_generation form) some tells.1);
          levels = l ∙ ap (λ (ls : List ℕ). ls ++ level_in (form_square form)) s.levels ∙ sym (levels_more lines line (form_square form) here);
        },
      )

  -- and what is returned for it
  pub keeps_next : (parsed : ParsedLine) {E : Type 0} (r : Result (Option Line) E) → let form = form_of parsed in
      old.started ≡ true → broken_after top old.rule old.levels line ≡ None → IsParsed line parsed
      → IfOk r (λ found. found ≡ form_square form) → OnOk r (new.rule ≡ unwrap_or (form_rule form) old.rule)
      → OnOk r (new.generation ≡ unwrap_or (form_generation form) old.generation)
      → OnOk r (new.levels ≡ old.levels ++ level_in (form_square form)) → new.started ≡ old.started
      → IfOk r (λ found. (found ≡ square_after lines line) × StandsAfter top (lines ++ line ∷ []) new)
  keeps_next parsed (Ok found) t b tells p r g l st = let n = stands_next parsed t b tells st r g l in (p ∙ n.0, n.1)
  keeps_next parsed (Err e) t b tells p r g l st = tt

-- ---- a rule line or a generation line

pub rule_breaks : (top : ℕ) (rule : Rule) (levels : List ℕ) (line : List ℕ) → is_blank line ≡ false → begins_with line (codes "#FRAME") ≡ false
    → is_letter_command 82 line ≡ true → nat_lt 0 (length levels) ≡ false → broken_after top rule levels line ≡ result_err (rule_of (drop 2 line))
rule_breaks top rule levels line b f r l = rw (b, f, r, l) refl

pub generation_breaks : (top : ℕ) (rule : Rule) (levels : List ℕ) (line : List ℕ) → is_blank line ≡ false → begins_with line (codes "#FRAME") ≡ false
    → is_letter_command 82 line ≡ false
    → is_letter_command 71 line ≡ true → nat_lt 0 (length levels) ≡ false → broken_after top rule levels line ≡ result_err (u64_of (trim (drop 2 line)))
generation_breaks top rule levels line b f r g l = rw (b, f, r, g, l) refl

pub rule_parsed_so : (line : List ℕ) (rule : Rule) → is_letter_command 82 line ≡ true → rule_of (drop 2 line) ≡ Ok rule
    → (rule_on line ≡ Some rule) × (generation_on line ≡ None) × (square_on line ≡ None)
rule_parsed_so line rule r e = (
  ap (λ v. cond v (result_ok (rule_of (drop 2 line))) None) r ∙ ap result_ok e,
  ap (λ (l : List ℕ). cond (is_letter_command 71 l) (Some (value_of (trim (drop 2 line)))) None) (commands 82 line r).0,
  hash_no_square line (command_is_hash 0 82 line r),
)

pub generation_parsed_so : (line : List ℕ) (n : ℕ) → is_letter_command 82 line ≡ false → is_letter_command 71 line ≡ true → n ≡ value_of (trim (drop 2 line))
    → (rule_on line ≡ None) × (generation_on line ≡ Some n) × (square_on line ≡ None)
generation_parsed_so line n r g e = (
  ap (λ v. cond v (result_ok (rule_of (drop 2 line))) None) r,
  ap (λ v. cond v (Some (value_of (trim (drop 2 line)))) None) g ∙ ap Some (sym e),
  hash_no_square line (command_is_hash 0 71 line g),
)

pub none_left : (levels : List ℕ) (v : Bool) → v ≡ (length levels == 0) → v ≡ true → nat_lt 0 (length levels) ≡ false
none_left levels v e h = grind (arith, nat_tests)

-- ---- a node line

-- a square breaks no rule
pub square_ok : (top : ℕ) (rule : Rule) (levels : List ℕ) (line : Line) → IsSquare top rule levels line → broken_by_square top rule levels (Some line) ≡ None
square_ok top rule levels (Leaf rows) h = refl
square_ok top rule levels (Quad level nw ne sw se) h =
    by (nat_le 1 level) (nat_le level top) (list_all (is_quarter rule levels level) (nw ∷ ne ∷ sw ∷ se ∷ [])) (level == 1) (le-leb 1 level h.0)
    (le-leb level top h.1) h.2
  where
    by : (u v w one : Bool) → u ≡ true → v ≡ true → w ≡ true → cond (not (u && v)) (Some BadLevel) (cond w None (cond one (Some StateRange) (Some BadChild)))
        ≡ None
    by u v w one p q r = rw (p, q, r) refl
