-- The format as a whole, and line by line, accept the same files.
use Rattle.std.proofs.Common.{◌≡◌, ℕ, zero, suc, ◌^◌, ◌<◌, List, [], ◌∷◌, ◌++◌, length, take, get_or, map, Bool, true, false, cond, ◌&&◌, refl, ap, sym, subst, ◌∙◌, arith, append_assoc, length-append, ◌⊎◌, inl, inr, true≢false, codes, nat_le, Option, Some, None, filter_map, le-leb, ltb-false, append-nil}
use Rattle.std.specs.List.{list_all, AllZip, slice_get}
use Rattle.std.proofs.Math.Seq.{take-append_seam}
use Rattle.std.proofs.lemmas.Bool.{cases_Bool}
use Rattle.std.proofs.lemmas.Bool.Decides.{nat_tests}
use Rattle.std.proofs.lemmas.List.{length-map}
use Rattle.life_base.specs.Text.{begins_with, is_too_long}
use Rattle.life_base.specs.Rules.{default_rule}
use Rattle.life_base.specs.declared.kind.Kind.{Kind}
use Rattle.life_base.specs.declared.kind.Kind.TheVariants.{LineTooLong, NoHeader}
use Rattle.life_base.specs.declared.rule.Rule.{Rule}
use Rattle.life_base.proofs.Basics.{right_of_and, left_of_and}
use Rattle.life_mc.specs.Macrocell.{Macrocell, AreSquares, IsSquare, level_of}
use Rattle.life_mc.specs.Grammar.{IsPlainMacrocell, Form, blank_line, comment_line, rule_line, generation_line, node_line, HasForm, form_rule, form_generation, form_square, is_no_command, are_in_order, MacrocellGrammarsAgree}
use Rattle.life_mc.specs.Reading.{AreMacrocell, broken_rule, broken_rule_after, broken_by_square, last_or, rule_in_force, squares_of, rule_on, generation_on, square_on}
use Rattle.std.specs.Option.{unwrap_or}
use Rattle.life_mc.specs.declared.line.Line.{Line}
use Rattle.life_mc.proofs.Around.{begins, begun}
use Rattle.life_mc.proofs.Forms.{gives, parsed_stands, node_stands, form_on, command_first}
use Rattle.life_mc.proofs.ReadLines.{squares_none, squares_some, get_seam}
use Rattle.life_mc.proofs.Stands.{rule_more, square_ok}
use Rattle.life_mc.proofs.Valid.{squares_valid}

-- ---- one line's tests

is_short : (line : List ℕ) → is_too_long line ≡ false → nat_le (length line) (2 ^ 20) ≡ true
is_short line h = le-leb (length line) (2 ^ 20) (omega (arith, ltb-false (2 ^ 20) (length line) h))

no_long : (line : List ℕ) → nat_le (length line) (2 ^ 20) ≡ true → is_too_long line ≡ false
no_long line h = grind (arith, nat_tests)

module _ (top : ℕ) where
  abbrev rest_of : List (List ℕ) → List ℕ → Option Kind
  rest_of [] line = cond (begins_with line (codes "[M2]")) None (Some NoHeader)
  rest_of (header ∷ before) line = broken_rule_after top (header ∷ before) line

  broken_is : (before : List (List ℕ)) (line : List ℕ) → broken_rule top before line ≡ cond (is_too_long line) (Some LineTooLong) (rest_of before line)
  unfolding broken_rule
  broken_is [] line = refl
  broken_is (header ∷ before) line = refl

  passed : (v : Bool) (o : Option Kind) → cond v (Some LineTooLong) o ≡ None → (v ≡ false) × (o ≡ None)
  passed true o h = cc
  passed false o h = (refl, h)

  unbroken_says : (before : List (List ℕ)) (line : List ℕ) → broken_rule top before line ≡ None → (is_too_long line ≡ false) × (rest_of before line ≡ None)
  unbroken_says before line h = passed (is_too_long line) (rest_of before line) (sym (broken_is before line) ∙ h)

  is_unbroken : (before : List (List ℕ)) (line : List ℕ) → is_too_long line ≡ false → rest_of before line ≡ None → broken_rule top before line ≡ None
  is_unbroken before line l h = broken_is before line ∙ ap (λ v. cond v (Some LineTooLong) (rest_of before line)) l ∙ h

  header_begins : (v : Bool) → cond v None (Some NoHeader) ≡ None → v ≡ true
  header_begins true h = refl
  header_begins false h = cc

all_short : (lines : List (List ℕ)) → ((k : ℕ) → k < length lines → is_too_long (get_or lines k []) ≡ false)
    → list_all (λ line. nat_le (length line) (2 ^ 20)) lines ≡ true
all_short [] h = refl
all_short (line ∷ lines) h =
    ap (λ v. v && list_all (λ l. nat_le (length l) (2 ^ 20)) lines) (is_short line (h 0 (omega arith))) ∙ all_short lines (λ k l. h (suc k) (omega arith))

short_at : (lines : List (List ℕ)) → list_all (λ line. nat_le (length line) (2 ^ 20)) lines ≡ true → (k : ℕ) → k < length lines
    → is_too_long (get_or lines k []) ≡ false
short_at [] h k l = absurd (omega arith)
short_at (line ∷ lines) h zero l = no_long line (left_of_and (nat_le (length line) (2 ^ 20)) _ h)
short_at (line ∷ lines) h (suc k) l = short_at lines (right_of_and (nat_le (length line) (2 ^ 20)) _ h) k (omega arith)

-- ---- what lines give

abbrev option_list : {X : Type 0} → Option X → List X
option_list None = []
option_list (Some x) = x ∷ []

filter_step : {X Y : Type 0} (f : Y → Option X) (y : Y) (ys : List Y) (o : Option X) → f y ≡ o → filter_map f (y ∷ ys) ≡ option_list o ++ filter_map f ys
filter_step f y ys None h = rw h refl
filter_step f y ys (Some x) h = rw h refl

same_map : {X : Type 0} (f : List ℕ → Option X) (g : Form → Option X) → ((line : List ℕ) (form : Form) → HasForm line form → f line ≡ g form)
    → (lines : List (List ℕ)) (forms : List Form) → AllZip HasForm lines forms → filter_map f lines ≡ filter_map g forms
same_map f g same [] [] z = refl
same_map f g same [] (form ∷ forms) z = absurd z
same_map f g same (line ∷ lines) [] z = absurd z
same_map {X = X} f g same (line ∷ lines) (form ∷ forms) z =
    filter_step f line lines (g form) (same line form z.0) ∙ ap (λ (t : List X). option_list (g form) ++ t) (same_map f g same lines forms z.1)
    ∙ sym (filter_step g form forms (g form) refl)

-- ---- the lines after the header, one after another

module _ (top : ℕ) (header : List ℕ) where
  -- each breaks no rule after those before it
  abbrev Stand : List (List ℕ) → List (List ℕ) → Type 0
  Stand [] before = Unit {0}
  Stand (line ∷ lines) before = (broken_rule_after top (header ∷ before) line ≡ None) × Stand lines (before ++ line ∷ [])

  stand_from : (lines before : List (List ℕ))
      → ((k : ℕ) → k < length lines → broken_rule_after top (header ∷ (before ++ take k lines)) (get_or lines k []) ≡ None)
      → Stand lines before
  stand_from [] before h = tt
  stand_from (line ∷ lines) before h = (
    sym (ap (λ ls. broken_rule_after top (header ∷ ls) line) (append-nil before)) ∙ h 0 (omega arith),
    stand_from lines (before ++ line ∷ [])
        (λ k l. ap (λ ls. broken_rule_after top (header ∷ ls) (get_or lines k [])) (append_assoc before (line ∷ []) (take k lines)) ∙ h (suc k) (omega arith)),
  )

  stand_at : (lines before : List (List ℕ)) → Stand lines before → (k : ℕ) → k < length lines
      → broken_rule_after top (header ∷ (before ++ take k lines)) (get_or lines k []) ≡ None
  stand_at [] before s k l = absurd (omega arith)
  stand_at (line ∷ lines) before s zero l = ap (λ ls. broken_rule_after top (header ∷ ls) line) (append-nil before) ∙ s.0
  stand_at (line ∷ lines) before s (suc k) l =
      sym (ap (λ ls. broken_rule_after top (header ∷ ls) (get_or lines k [])) (append_assoc before (line ∷ []) (take k lines)))
      ∙ stand_at lines (before ++ line ∷ []) s.1 k (omega arith)

  forms_of : (lines before : List (List ℕ)) → Stand lines before → (forms : List Form) × AllZip HasForm lines forms
  forms_of [] before s = ([], tt)
  forms_of (line ∷ lines) before s =
      let f = form_on top (header ∷ before) line s.0 in
      let more = forms_of lines (before ++ line ∷ []) s.1 in
      (f.0 ∷ more.0, (f.1, more.1))

  -- ---- the order

  abbrev squares : List (List ℕ) → List Line
  squares before = squares_of (header ∷ before)

  squares_more : (before : List (List ℕ)) (line : List ℕ) (o : Option Line) → square_on line ≡ o → squares (before ++ line ∷ []) ≡ squares before
      ++ option_list o
  squares_more before line None h = squares_none (header ∷ before) line h ∙ sym (append-nil (squares before))
  squares_more before line (Some square) h = squares_some (header ∷ before) line square h

  longer : (before : List (List ℕ)) (line : List ℕ) (o : Option Line) → square_on line ≡ o → 0 < length (squares before)
      → 0 < length (squares (before ++ line ∷ []))
  longer before line o h l = omega (arith, ap length (squares_more before line o h), length-append (squares before) (option_list o))

  no_late : (before : List (List ℕ)) (line : List ℕ) (form : Form) → HasForm line form → broken_rule_after top (header ∷ before) line ≡ None
      → 0 < length (squares before) → is_no_command form ≡ true
  no_late before line form h e l = elim (cases_Bool (is_no_command form)) [
    | inl t ↦ t
    | inr f ↦ (let k = ltb-false 0 (length (map level_of (squares before))) (command_first top (header ∷ before) line form h f e) in
        absurd (omega (arith, length-map (squares before) level_of)))
  ]

  no_more : (lines : List (List ℕ)) (forms : List Form) (before : List (List ℕ)) → AllZip HasForm lines forms → Stand lines before → 0 < length (squares before)
      → list_all is_no_command forms ≡ true
  no_more [] [] before z s l = refl
  no_more [] (form ∷ forms) before z s l = absurd z
  no_more (line ∷ lines) [] before z s l = absurd z
  no_more (line ∷ lines) (form ∷ forms) before z s l =
      ap (λ v. v && list_all is_no_command forms) (no_late before line form z.0 s.0 l)
      ∙ no_more lines forms (before ++ line ∷ []) z.1 s.1 (longer before line (form_square form) (gives line form z.0).square l)

  in_order : (lines : List (List ℕ)) (forms : List Form) (before : List (List ℕ)) → AllZip HasForm lines forms → Stand lines before → are_in_order forms ≡ true
  in_order [] [] before z s = refl
  in_order [] (form ∷ forms) before z s = absurd z
  in_order (line ∷ lines) [] before z s = absurd z
  in_order (line ∷ lines) (form ∷ forms) before z s = by form z.0 (in_order lines forms (before ++ line ∷ []) z.1 s.1)
    where
      by : (form : Form) → HasForm line form → are_in_order forms ≡ true → are_in_order (form ∷ forms) ≡ true
      by blank_line h ih = ih
      by comment_line h ih = ih
      by (rule_line rule) h ih = ih
      by (generation_line generation) h ih = ih
      by (node_line square) h ih =
          no_more lines forms (before ++ line ∷ []) z.1 s.1
          (omega (
            arith,
            ap length (squares_more before line (Some square) (gives line (node_line square) h).square),
            length-append (squares before) (square ∷ []),
          ))

  -- ---- from the whole to each line

  record Ahead (file : Macrocell) (forms : List Form) (before : List (List ℕ)) : Type 0 where
    pub squares_are : file.lines ≡ squares before ++ filter_map form_square forms
    pub rule_is : file.rule ≡ last_or (rule_in_force (header ∷ before)) (filter_map form_rule forms)
    pub order : ((squares before ≡ []) × (are_in_order forms ≡ true)) ⊎ (list_all is_no_command forms ≡ true)

  last_step : (x : Rule) (o : Option Rule) (ys : List Rule) → last_or x (option_list o ++ ys) ≡ last_or (unwrap_or o x) ys
  last_step x None ys = refl
  last_step x (Some y) ys = refl

  next_order : (form : Form) (forms : List Form) (before : List (List ℕ)) (line : List ℕ) → square_on line ≡ form_square form
      → ((squares before ≡ []) × (are_in_order (form ∷ forms) ≡ true)) ⊎ (list_all is_no_command (form ∷ forms) ≡ true)
      → ((squares (before ++ line ∷ []) ≡ []) × (are_in_order forms ≡ true)) ⊎ (list_all is_no_command forms ≡ true)
  next_order form forms before line g (inr q) = inr (right_of_and (is_no_command form) _ q)
  next_order (node_line square) forms before line g (inl p) = inr p.1
  next_order blank_line forms before line g (inl p) = inl (squares_none (header ∷ before) line g ∙ p.0, p.1)
  next_order comment_line forms before line g (inl p) = inl (squares_none (header ∷ before) line g ∙ p.0, p.1)
  next_order (rule_line rule) forms before line g (inl p) = inl (squares_none (header ∷ before) line g ∙ p.0, p.1)
  next_order (generation_line generation) forms before line g (inl p) = inl (squares_none (header ∷ before) line g ∙ p.0, p.1)

  next_ahead : (file : Macrocell) (form : Form) (forms : List Form) (before : List (List ℕ)) (line : List ℕ) → HasForm line form
      → Ahead file (form ∷ forms) before → Ahead file forms (before ++ line ∷ [])
  next_ahead file form forms before line h a =
      let g = gives line form h in
      record {
        squares_are = a.squares_are ∙ ap (λ (t : List Line). squares before ++ t) (filter_step form_square form forms (form_square form) refl)
            ∙ sym (append_assoc (squares before) (option_list (form_square form)) (filter_map form_square forms))
            ∙ ap (λ (t : List Line). t ++ filter_map form_square forms) (sym (squares_more before line (form_square form) g.square));
        rule_is = a.rule_is ∙ ap (last_or (rule_in_force (header ∷ before))) (filter_step form_rule form forms (form_rule form) refl)
            ∙ last_step (rule_in_force (header ∷ before)) (form_rule form) (filter_map form_rule forms)
            ∙ ap (λ x. last_or x (filter_map form_rule forms)) (sym (rule_more (header ∷ before) line (form_rule form) refl g.rule));
        order = next_order form forms before line g.square a.order;
      }

  no_rules : (forms : List Form) → list_all is_no_command forms ≡ true → filter_map form_rule forms ≡ []
  no_rules [] h = refl
  no_rules (blank_line ∷ forms) h = no_rules forms h
  no_rules (comment_line ∷ forms) h = no_rules forms h
  no_rules (rule_line rule ∷ forms) h = cc
  no_rules (generation_line generation ∷ forms) h = cc
  no_rules (node_line square ∷ forms) h = no_rules forms h

  no_commands_behind : (square : Line) (forms : List Form) (before : List (List ℕ))
      → ((squares before ≡ []) × (are_in_order (node_line square ∷ forms) ≡ true)) ⊎ (list_all is_no_command (node_line square ∷ forms) ≡ true)
      → list_all is_no_command forms ≡ true
  no_commands_behind square forms before (inl p) = p.1
  no_commands_behind square forms before (inr q) = q

  square_stands : (file : Macrocell) (square : Line) (forms : List Form) (before : List (List ℕ)) → AreSquares top file.rule file.lines
      → Ahead file (node_line square ∷ forms) before
      → broken_by_square top (rule_in_force (header ∷ before)) (map level_of (squares before)) (Some square) ≡ None
  square_stands file square forms before v a =
      let xs : List Line = squares before in
      let ys : List Line = filter_map form_square forms in
      let rule : file.rule ≡ rule_in_force (header ∷ before) = a.rule_is
      ∙ ap (last_or (rule_in_force (header ∷ before))) (no_rules forms (no_commands_behind square forms before a.order)) in
      let at : slice_get file.lines (length xs) ≡ Some square = ap (λ ls. slice_get ls (length xs)) a.squares_are ∙ get_seam xs square ys in
      let prefix : take (length xs) file.lines ≡ xs = ap (take (length xs)) a.squares_are ∙ take-append_seam xs (square ∷ ys) in
      let P : List Line → Type 0 = λ ls. IsSquare top file.rule (map level_of ls) square in
      let Q : Rule → Type 0 = λ r. IsSquare top r (map level_of xs) square in
      square_ok top (rule_in_force (header ∷ before)) (map level_of xs) square (subst Q rule (subst P prefix (v (length xs) square at)))

  first_of_all : (form : Form) (forms : List Form) (before : List (List ℕ)) → is_no_command form ≡ false
      → ((squares before ≡ []) × (are_in_order (form ∷ forms) ≡ true)) ⊎ (list_all is_no_command (form ∷ forms) ≡ true) → squares before ≡ []
  first_of_all form forms before n (inl p) = p.0
  first_of_all form forms before n (inr q) = absurd (true≢false (sym q ∙ ap (λ v. v && list_all is_no_command forms) n))

  line_stands : (file : Macrocell) (form : Form) (forms : List Form) (before : List (List ℕ)) (line : List ℕ) → HasForm line form
      → AreSquares top file.rule file.lines → Ahead file (form ∷ forms) before
      → broken_rule_after top (header ∷ before) line ≡ None
  line_stands file blank_line forms before line h v a = parsed_stands top (header ∷ before) line blank_line h refl
      (λ n. first_of_all blank_line forms before n a.order)
  line_stands file comment_line forms before line h v a = parsed_stands top (header ∷ before) line comment_line h refl
      (λ n. first_of_all comment_line forms before n a.order)
  line_stands file (rule_line rule) forms before line h v a = parsed_stands top (header ∷ before) line (rule_line rule) h refl
      (λ n. first_of_all (rule_line rule) forms before n a.order)
  line_stands file (generation_line generation) forms before line h v a =
      parsed_stands top (header ∷ before) line (generation_line generation) h refl (λ n. first_of_all (generation_line generation) forms before n a.order)
  line_stands file (node_line square) forms before line h v a = node_stands top (header ∷ before) line square h (square_stands file square forms before v a)

  stand_all : (file : Macrocell) (lines : List (List ℕ)) (forms : List Form) (before : List (List ℕ)) → AllZip HasForm lines forms
      → AreSquares top file.rule file.lines → Ahead file forms before → Stand lines before
  stand_all file [] forms before z v a = tt
  stand_all file (line ∷ lines) [] before z v a = absurd z
  stand_all file (line ∷ lines) (form ∷ forms) before z v a =
      (line_stands file form forms before line z.0 v a, stand_all file lines forms (before ++ line ∷ []) z.1 v (next_ahead file form forms before line z.0 a))

-- ---- the two grammars

module _ (top : ℕ) where
  to_file : (lines : List (List ℕ)) (file : Macrocell) → AreMacrocell top lines file → IsPlainMacrocell top lines file
  to_file [] file m = let h = m.header in absurd (omega arith)
  to_file (header ∷ behind) file m =
      let s : Stand top header behind [] = stand_from top header behind []
      (λ k l. (unbroken_says top (header ∷ take k behind) (get_or behind k []) (m.unbroken (suc k) (omega arith))).1) in
      let f = forms_of top header behind [] s in
      let P : Rule → Type 0 = λ r. AreSquares top r (squares_of (header ∷ behind)) in
      let Q : List Line → Type 0 = λ ls. AreSquares top file.rule ls in
      record {
        header = header;
        behind = behind;
        forms = f.0;
        is = refl;
        format = begins (codes "[M2]") header
            (header_begins top (begins_with header (codes "[M2]")) (unbroken_says top [] header (m.unbroken 0 (omega arith))).1);
        short = all_short (header ∷ behind) (λ k l. (unbroken_says top (take k (header ∷ behind)) (get_or (header ∷ behind) k []) (m.unbroken k l)).0);
        each = f.1;
        order = in_order top header behind f.0 [] f.1 s;
        rule = m.rule ∙ ap (last_or default_rule) (same_map rule_on form_rule (λ line form h. (gives line form h).rule) behind f.0 f.1);
        generation = m.generation ∙ ap (last_or 0) (same_map generation_on form_generation (λ line form h. (gives line form h).generation) behind f.0 f.1);
        squares = m.squares ∙ same_map square_on form_square (λ line form h. (gives line form h).square) behind f.0 f.1;
        valid = subst Q (sym m.squares) (subst P (sym m.rule) (squares_valid top (header ∷ behind) m.unbroken));
      }

  each_unbroken : (header : List ℕ) (behind : List (List ℕ)) → begins_with header (codes "[M2]") ≡ true
      → list_all (λ line. nat_le (length line) (2 ^ 20)) (header ∷ behind) ≡ true → Stand top header behind []
      → (k : ℕ) → k < length (header ∷ behind) → broken_rule top (take k (header ∷ behind)) (get_or (header ∷ behind) k []) ≡ None
  each_unbroken header behind b h s zero l = is_unbroken top [] header (short_at (header ∷ behind) h 0 l) (ap (λ v. cond v None (Some NoHeader)) b)
  each_unbroken header behind b h s (suc k) l =
      is_unbroken top (header ∷ take k behind) (get_or behind k []) (short_at (header ∷ behind) h (suc k) l) (stand_at top header behind [] s k (omega arith))

  of_parts : (header : List ℕ) (behind : List (List ℕ)) (file : Macrocell) → (f : IsPlainMacrocell top (header ∷ behind) file) → f.header ≡ header → f.behind
      ≡ behind
      → AreMacrocell top (header ∷ behind) file
  of_parts header behind file f e g =
      let Z : List (List ℕ) → Type 0 = λ ls. AllZip HasForm ls f.forms in
      let z : AllZip HasForm behind f.forms = subst Z g f.each in
      let b : begins_with header (codes "[M2]") ≡ true = ap (λ l. begins_with l (codes "[M2]")) (sym e) ∙ begun (codes "[M2]") f.header f.format in
      let s : Stand top header behind [] = stand_all top header file behind f.forms [] z f.valid
      (record { squares_are = f.squares; rule_is = f.rule; order = inl (refl, f.order) }) in
      record {
        header = omega arith;
        unbroken = each_unbroken header behind b f.short s;
        rule = f.rule ∙ ap (last_or default_rule) (sym (same_map rule_on form_rule (λ line form h. (gives line form h).rule) behind f.forms z));
        generation = f.generation ∙ ap (last_or 0)
            (sym (same_map generation_on form_generation (λ line form h. (gives line form h).generation) behind f.forms z));
        squares = f.squares ∙ sym (same_map square_on form_square (λ line form h. (gives line form h).square) behind f.forms z);
      }

  head_is : (a b : List ℕ) (xs ys : List (List ℕ)) → a ∷ xs ≡ b ∷ ys → (b ≡ a) × (ys ≡ xs)
  head_is a b xs ys h = (cc, cc)

  of_file : (lines : List (List ℕ)) (file : Macrocell) → IsPlainMacrocell top lines file → AreMacrocell top lines file
  of_file [] file f = let e = f.is in cc
  of_file (header ∷ behind) file f = let h = head_is header f.header behind f.behind f.is in of_parts header behind file f h.0 h.1

  pub grammars_agree : MacrocellGrammarsAgree top
  grammars_agree lines file = (of_file lines file, to_file lines file)
