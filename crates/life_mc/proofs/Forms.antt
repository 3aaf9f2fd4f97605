-- What each form of a line gives, and that it breaks no rule.
use Rattle.std.proofs.Common.{◌≡◌, ℕ, ◌-◌, ◌^◌, ◌<◌, List, [], ◌∷◌, ◌++◌, length, drop, map, Bool, true, false, cond, not, ◌&&◌, ◌||◌, refl, ap, sym, ◌∙◌, arith, ◌⊎◌, inl, inr, true≢false, codes, nat_le, nat_lt, slice_index, Option, Some, None, Result, Ok, Err, leb-true, le-leb}
use Rattle.std.specs.List.{list_all}
use Rattle.std.specs.Result.{result_ok, result_err}
use Rattle.std.proofs.lemmas.Bool.{false_from_ne_true}
use Rattle.life_base.proofs.RuleForms.{around_trim, trimmed_around}
use Rattle.life_base.proofs.Texts.{blank_no_words}
use Rattle.life_base.specs.Text.{is_blank, begins_with, trim, words_of, is_digit_text, value_of, IsAround}
use Rattle.life_base.specs.Numbers.{u64_of}
use Rattle.life_base.specs.Rules.{rule_of}
use Rattle.life_base.specs.declared.kind.Kind.{Kind}
use Rattle.life_base.specs.declared.kind.Kind.TheVariants.{BadNumber, TooLarge, Timeline, LateHeader, BadLeaf}
use Rattle.life_base.specs.declared.rule.Rule.{Rule}
use Rattle.life_mc.specs.Macrocell.{level_of}
use Rattle.life_mc.specs.Grammar.{IsCommand, IsMacrocellComment, IsGenerationLine, IsLeafLine, IsQuarterLine, IsNodeLine, Form, blank_line, comment_line, rule_line, generation_line, node_line, HasForm, form_rule, form_generation, form_square, is_no_command}
use Rattle.life_mc.specs.Reading.{broken_rule_after, broken_by_node, broken_by_square, is_letter_command, is_leaf_byte, is_leaf, leaf_bytes, quad_of_numbers, square_of_text, square_on, rule_on, generation_on, squares_of, rule_in_force}
use Rattle.life_mc.specs.declared.line.Line.{Line}
use Rattle.life_mc.specs.declared.line.Line.TheVariants.{Leaf, Quad}
use Rattle.life_mc.proofs.Around.{begins, begun, commands, commanded, behind_command, blank_trimmed, words_trimmed, separated_words, words_separate, numbers_first, hash_no_numbers, hash_trimmed, digits_solid, hash_no_square}
use Rattle.life_mc.proofs.LeafLines.{leaf_says, is_leaf_line}
use Rattle.life_mc.proofs.Valid.{command_is_hash, hash_not_blank, no_command}

-- ---- the tests on a line, by its form

pub blank_no_hash : (line : List ℕ) → is_blank line ≡ true → begins_with line (codes "#") ≡ false
blank_no_hash line h = false_from_ne_true _ (λ e. true≢false (sym h ∙ hash_not_blank 0 line e))

no_hash_no_frame : (line : List ℕ) → begins_with line (codes "#") ≡ false → begins_with line (codes "#FRAME") ≡ false
no_hash_no_frame line h = false_from_ne_true _ (λ e.
    let b = begins (codes "#FRAME") line e in true≢false (sym (begun (codes "#") line (codes "FRAME" ++ b.0, b.1)) ∙ h))

record Tests (line : List ℕ) (blank frame rule generation hash : Bool) : Type 0 where
  pub is_blank : is_blank line ≡ blank
  pub is_frame : begins_with line (codes "#FRAME") ≡ frame
  pub is_rule : is_letter_command 82 line ≡ rule
  pub is_generation : is_letter_command 71 line ≡ generation
  pub is_hash : begins_with line (codes "#") ≡ hash

-- a line without `#` at the beginning, blank or not
no_hash_tests : (line : List ℕ) (blank : Bool) → is_blank line ≡ blank → begins_with line (codes "#") ≡ false → Tests line blank false false false false
no_hash_tests line blank b hash = record {
  is_blank = b;
  is_frame = no_hash_no_frame line hash;
  is_rule = no_command 0 82 line hash;
  is_generation = no_command 0 71 line hash;
  is_hash = hash;
}

blank_tests : (line : List ℕ) → is_blank line ≡ true → Tests line true false false false false
blank_tests line h = no_hash_tests line true h (blank_no_hash line h)

comment_tests : (line : List ℕ) → IsMacrocellComment line → Tests line false false false false true
comment_tests line h =
    let hash = begun (codes "#") line h.hash in
    record {
      is_blank = hash_not_blank 0 line hash;
      is_frame = false_from_ne_true _ (λ e. h.no_frame (begins (codes "#FRAME") line e));
      is_rule = false_from_ne_true _ (λ e. h.no_rule (drop 2 line) (commands 82 line e));
      is_generation = false_from_ne_true _ (λ e. h.no_generation (drop 2 line) (commands 71 line e));
      is_hash = hash;
    }

-- a line with a command, whose letter the tests tell apart
command_tests : (letter : ℕ) (rule generation : Bool) (line rest : List ℕ) → IsCommand (35 ∷ letter ∷ []) rest line
    → begins_with (35 ∷ letter ∷ rest) (codes "#FRAME") ≡ false → is_letter_command 82 line ≡ rule → is_letter_command 71 line ≡ generation
    → Tests line false false rule generation true
command_tests letter rule generation line rest h frame r g =
    let hash = command_is_hash 0 letter line (commanded letter rest line h) in
    record {
      is_blank = hash_not_blank 0 line hash;
      is_frame = ap (λ l. begins_with l (codes "#FRAME")) h.0 ∙ frame;
      is_rule = r;
      is_generation = g;
      is_hash = hash;
    }

rule_tests : (line rest : List ℕ) → IsCommand (codes "#R") rest line → Tests line false false true false true
rule_tests line rest h = command_tests 82 true false line rest h refl (commanded 82 rest line h) (ap (is_letter_command 71) h.0)

generation_tests : (line rest : List ℕ) → IsCommand (codes "#G") rest line → Tests line false false false true true
generation_tests line rest h = command_tests 71 false true line rest h refl (ap (is_letter_command 82) h.0) (commanded 71 rest line h)

-- ---- a node line

pub record IsNode (line : List ℕ) (square : Line) : Type 0 where
  pub blank : is_blank line ≡ false
  pub hash : begins_with line (codes "#") ≡ false
  pub no_bad_leaf : (is_leaf_byte (slice_index (trim line) 0) && not (is_leaf (trim line))) ≡ false
  pub square_is : square_of_text (trim line) ≡ Some square

abbrev chosen : List ℕ → Bool → Bool → Bool → Option Line
chosen text u v w = cond u (cond v (Some (Leaf (leaf_bytes text))) None) (cond w (quad_of_numbers (map value_of (words_of text))) None)

leaf_node : (line bytes : List ℕ) → IsLeafLine line bytes → IsNode line (Leaf bytes)
leaf_node line bytes h =
    let s = leaf_says line bytes h in
    let text : List ℕ = trim line in
    record {
      blank = false_from_ne_true _ (λ e. true≢false (sym s.begins ∙ ap (λ t. is_leaf_byte (slice_index t 0)) (blank_trimmed line e)));
      hash = false_from_ne_true _ (λ e. true≢false (sym s.begins ∙ ap is_leaf_byte (hash_trimmed line e)));
      no_bad_leaf = ap (λ v. is_leaf_byte (slice_index text 0) && not v) s.leaf ∙ ap (λ v. v && false) s.begins;
      square_is = ap (λ u. chosen text u (is_leaf text) (list_all is_digit_text (words_of text))) s.begins
          ∙ ap (λ v. chosen text true v (list_all is_digit_text (words_of text))) s.leaf ∙ ap (λ rows. Some (Leaf rows)) (sym s.rows);
    }

no_five : (level nw ne sw se : ℕ) → (let none : List ℕ = [] in none) ≡ level ∷ nw ∷ ne ∷ sw ∷ se ∷ [] → ⊥
no_five level nw ne sw se h = cc

quarter_node : (line : List ℕ) (level nw ne sw se : ℕ) → IsQuarterLine line level nw ne sw se → IsNode line (Quad level nw ne sw se)
quarter_node line level nw ne sw se h =
    let text : List ℕ = trim line in
    let words : words_of line ≡ h.texts = separated_words h.texts line h.digits h.separated in
    let same : words_of text ≡ h.texts = words_trimmed line ∙ words in
    let digits : list_all is_digit_text (words_of text) ≡ true = ap (list_all is_digit_text) same ∙ h.digits in
    let no_leaf : is_leaf_byte (slice_index text 0) ≡ false = numbers_first text digits in
    record {
      blank = false_from_ne_true _ (λ e. no_five level nw ne sw se (ap (map value_of) (sym (blank_no_words line e) ∙ words) ∙ h.values));
      hash = false_from_ne_true _ (λ e. true≢false (sym (ap (list_all is_digit_text) words ∙ h.digits) ∙ hash_no_numbers line e));
      no_bad_leaf = ap (λ v. v && not (is_leaf text)) no_leaf;
      square_is = ap (λ u. chosen text u (is_leaf text) (list_all is_digit_text (words_of text))) no_leaf
          ∙ ap (λ w. chosen text false (is_leaf text) w) digits ∙ ap (λ ws. quad_of_numbers (map value_of ws)) same ∙ ap quad_of_numbers h.values;
    }

pub is_node : (line : List ℕ) (square : Line) → IsNodeLine line square → IsNode line square
is_node line (Leaf bytes) h = leaf_node line bytes h
is_node line (Quad level nw ne sw se) h = quarter_node line level nw ne sw se h

-- ---- what a line gives

pub record Gives (line : List ℕ) (form : Form) : Type 0 where
  pub rule : rule_on line ≡ form_rule form
  pub generation : generation_on line ≡ form_generation form
  pub square : square_on line ≡ form_square form

no_rule_on : (line : List ℕ) → is_letter_command 82 line ≡ false → rule_on line ≡ None
no_rule_on line h = ap (λ v. cond v (result_ok (rule_of (drop 2 line))) None) h

no_generation_on : (line : List ℕ) → is_letter_command 71 line ≡ false → generation_on line ≡ None
no_generation_on line h = ap (λ v. cond v (Some (value_of (trim (drop 2 line)))) None) h

number_read : (line : List ℕ) (generation : ℕ) → (h : IsGenerationLine line generation) → trim (drop 2 line) ≡ h.digits
number_read line generation h = ap trim (behind_command 71 h.rest line h.is) ∙ by h.digits h.number h.around
  where
    by : (digits : List ℕ) → is_digit_text digits ≡ true → IsAround h.rest digits → trim h.rest ≡ digits
    by [] n a = cc
    by (d ∷ digits) n a = around_trim h.rest (d ∷ digits) a (omega arith) (digits_solid (d ∷ digits) n)

pub gives : (line : List ℕ) (form : Form) → HasForm line form → Gives line form
gives line blank_line h =
    let t = blank_tests line h in
    record {
      rule = no_rule_on line t.is_rule;
      generation = no_generation_on line t.is_generation;
      square = ap (λ v. cond (not v && not (begins_with line (codes "#"))) (square_of_text (trim line)) None) h;
    }
gives line comment_line h =
    let t = comment_tests line h in
    record { rule = no_rule_on line t.is_rule; generation = no_generation_on line t.is_generation; square = hash_no_square line t.is_hash }
gives line (rule_line rule) h =
    let t = rule_tests line h.text h.is in
    record {
      rule = ap (λ v. cond v (result_ok (rule_of (drop 2 line))) None) t.is_rule ∙ ap (λ s. result_ok (rule_of s)) (behind_command 82 h.text line h.is)
          ∙ ap result_ok h.says;
      generation = no_generation_on line t.is_generation;
      square = hash_no_square line t.is_hash;
    }
gives line (generation_line generation) h =
    let t = generation_tests line h.rest h.is in
    record {
      rule = no_rule_on line t.is_rule;
      generation = ap (λ v. cond v (Some (value_of (trim (drop 2 line)))) None) t.is_generation ∙ ap (λ s. Some (value_of s)) (number_read line generation h)
          ∙ ap Some h.value;
      square = hash_no_square line t.is_hash;
    }
gives line (node_line square) h =
    let n = is_node line square h in
    let t = no_hash_tests line false n.blank n.hash in
    record {
      rule = no_rule_on line t.is_rule;
      generation = no_generation_on line t.is_generation;
      square = ap (λ v. cond (not v && not (begins_with line (codes "#"))) (square_of_text (trim line)) None) n.blank
          ∙ ap (λ v. cond (not v) (square_of_text (trim line)) None) n.hash ∙ n.square_is;
    }

-- ---- a line of a form breaks no rule

abbrev chain : Bool → Bool → Bool → Bool → Bool → Bool → Option Kind → Option Kind → Option Kind → Option Kind
chain blank frame rule generation late hash by_rule by_generation by_node =
    cond blank None (cond frame (Some Timeline)
    (cond ((rule || generation) && late) (Some LateHeader) (cond rule by_rule (cond generation by_generation (cond hash None by_node)))))

by_tests : (line : List ℕ) (b f r g h : Bool) (l : Bool) (x y z : Option Kind) → Tests line b f r g h
    → chain (is_blank line) (begins_with line (codes "#FRAME")) (is_letter_command 82 line) (is_letter_command 71 line) l (begins_with line (codes "#")) x y z
    ≡ chain b f r g l h x y z
by_tests line b f r g h l x y z t =
    ap (λ v. chain v (begins_with line (codes "#FRAME")) (is_letter_command 82 line) (is_letter_command 71 line) l (begins_with line (codes "#")) x y z)
    t.is_blank
    ∙ ap (λ v. chain b v (is_letter_command 82 line) (is_letter_command 71 line) l (begins_with line (codes "#")) x y z) t.is_frame
    ∙ ap (λ v. chain b f v (is_letter_command 71 line) l (begins_with line (codes "#")) x y z) t.is_rule
    ∙ ap (λ v. chain b f r v l (begins_with line (codes "#")) x y z) t.is_generation
    ∙ ap (λ v. chain b f r g l v x y z) t.is_hash

number_fits : (text : List ℕ) → is_digit_text text ≡ true → value_of text < 2 ^ 64 → result_err (u64_of text) ≡ None
number_fits text d l =
    ap (λ v. result_err (cond (not v) (Err BadNumber) (cond (nat_le (value_of text) (2 ^ 64 - 1)) (Ok (value_of text)) (Err TooLarge)))) d
    ∙ ap (λ v. result_err (cond v (Ok (value_of text)) (Err TooLarge))) (le-leb (value_of text) (2 ^ 64 - 1) (omega arith))

module _ (top : ℕ) (before : List (List ℕ)) (line : List ℕ) where
  abbrev late : Bool
  late = nat_lt 0 (length (map level_of (squares_of before)))

  abbrev by_rule : Option Kind
  by_rule = result_err (rule_of (drop 2 line))

  abbrev by_generation : Option Kind
  by_generation = result_err (u64_of (trim (drop 2 line)))

  abbrev by_node : Option Kind
  by_node = broken_by_node top (rule_in_force before) (map level_of (squares_of before)) (trim line)

  -- a line that gives no square
  pub parsed_stands : (form : Form) → HasForm line form → form_square form ≡ None → (is_no_command form ≡ false → squares_of before ≡ [])
      → broken_rule_after top before line ≡ None
  parsed_stands blank_line h n k = by_tests line true false false false false late by_rule by_generation by_node (blank_tests line h)
  parsed_stands comment_line h n k = by_tests line false false false false true late by_rule by_generation by_node (comment_tests line h)
  parsed_stands (rule_line rule) h n k =
      by_tests line false false true false true late by_rule by_generation by_node (rule_tests line h.text h.is)
      ∙ ap (λ (xs : List Line). cond (nat_lt 0 (length (map level_of xs))) (Some LateHeader) by_rule) (k refl)
      ∙ ap (λ s. result_err (rule_of s)) (behind_command 82 h.text line h.is) ∙ ap result_err h.says
  parsed_stands (generation_line generation) h n k =
      by_tests line false false false true true late by_rule by_generation by_node (generation_tests line h.rest h.is)
      ∙ ap (λ (xs : List Line). cond (nat_lt 0 (length (map level_of xs))) (Some LateHeader) by_generation) (k refl)
      ∙ ap (λ s. result_err (u64_of s)) (number_read line generation h)
      ∙ number_fits h.digits h.number (let e = h.value in let f = h.fits in omega arith)
  parsed_stands (node_line square) h n k = cc

  -- a node line
  pub node_stands : (square : Line) → IsNodeLine line square → broken_by_square top (rule_in_force before) (map level_of (squares_of before)) (Some square)
      ≡ None → broken_rule_after top before line ≡ None
  node_stands square h b =
      let n = is_node line square h in
      by_tests line false false false false false late by_rule by_generation by_node (no_hash_tests line false n.blank n.hash)
      ∙ ap (λ v. cond v (Some BadLeaf) (broken_by_square top (rule_in_force before) (map level_of (squares_of before)) (square_of_text (trim line))))
      n.no_bad_leaf
      ∙ ap (broken_by_square top (rule_in_force before) (map level_of (squares_of before))) n.square_is ∙ b

-- ---- a line that breaks no rule has a form

split : (v : Bool) (a b : Option Kind) → cond v a b ≡ None → ((v ≡ true) × (a ≡ None)) ⊎ ((v ≡ false) × (b ≡ None))
split true a b h = inl (refl, h)
split false a b h = inr (refl, h)

some_none : (kind : Kind) → Some kind ≡ None → ⊥
some_none kind h = cc

ok_of : {X : Type 0} (r : Result X Kind) → result_err r ≡ None → (x : X) × (r ≡ Ok x)
ok_of (Ok x) h = (x, refl)
ok_of (Err kind) h = cc

both_pass : (v w : Bool) (n : ℕ) → result_err (let r : Result ℕ Kind = cond (not v) (Err BadNumber) (cond w (Ok n) (Err TooLarge)) in r) ≡ None → (v ≡ true)
    × (w ≡ true)
both_pass true true n h = (refl, refl)
both_pass true false n h = cc
both_pass false w n h = cc

record Five (numbers : List ℕ) : Type 0 where
  pub level : ℕ
  pub nw : ℕ
  pub ne : ℕ
  pub sw : ℕ
  pub se : ℕ
  pub is : numbers ≡ level ∷ nw ∷ ne ∷ sw ∷ se ∷ []

-- five numbers are a quarter line
quarter_line : (line : List ℕ) (words : List (List ℕ)) → words ≡ words_of line → list_all is_digit_text words ≡ true → Five (map value_of words)
    → (square : Line) × IsNodeLine line square
quarter_line line words e d five = (
  Quad five.level five.nw five.ne five.sw five.se,
  record {
    texts = words_of line;
    separated = words_separate line;
    digits = sym (ap (list_all is_digit_text) e) ∙ d;
    values = sym (ap (map value_of) e) ∙ five.is;
  },
)

leaf_passes : (v w : Bool) → v ≡ true → (v && not w) ≡ false → w ≡ true
leaf_passes v true e h = refl
leaf_passes true false e h = cc
leaf_passes false false e h = cc

module _ (top : ℕ) (rule : Rule) (levels : List ℕ) where
  five_of : (numbers : List ℕ) → broken_by_square top rule levels (quad_of_numbers numbers) ≡ None → Five numbers
  five_of [] h = cc
  five_of (a ∷ []) h = cc
  five_of (a ∷ b ∷ []) h = cc
  five_of (a ∷ b ∷ c ∷ []) h = cc
  five_of (a ∷ b ∷ c ∷ d ∷ []) h = cc
  five_of (a ∷ b ∷ c ∷ d ∷ e ∷ []) h = record { level = a; nw = b; ne = c; sw = d; se = e; is = refl }
  five_of (a ∷ b ∷ c ∷ d ∷ e ∷ f ∷ numbers) h = cc

  digits_pass : (v : Bool) (numbers : List ℕ) → broken_by_square top rule levels (cond v (quad_of_numbers numbers) None) ≡ None → (v ≡ true) × Five numbers
  digits_pass true numbers h = (refl, five_of numbers h)
  digits_pass false numbers h = cc

  node_on : (line : List ℕ) → broken_by_node top rule levels (trim line) ≡ None → (square : Line) × IsNodeLine line square
  node_on line h = by (is_leaf_byte (slice_index (trim line) 0)) refl
    where
      by : (v : Bool) → is_leaf_byte (slice_index (trim line) 0) ≡ v → (square : Line) × IsNodeLine line square
      by true e = elim (split (is_leaf_byte (slice_index (trim line) 0) && not (is_leaf (trim line))) (Some BadLeaf) _ h) [
        | inl p ↦ absurd (some_none BadLeaf p.1)
        | inr p ↦ (Leaf (leaf_bytes (trim line)), is_leaf_line line e (leaf_passes _ (is_leaf (trim line)) e p.0))
      ]
      by false e = elim (split (is_leaf_byte (slice_index (trim line) 0) && not (is_leaf (trim line))) (Some BadLeaf) _ h) [
        | inl p ↦ absurd (some_none BadLeaf p.1)
        | inr p ↦ (let text : List ℕ = trim line in
            let d = digits_pass (list_all is_digit_text (words_of text)) (map value_of (words_of text))
            (sym (ap (λ u. broken_by_square top rule levels (chosen text u (is_leaf text) (list_all is_digit_text (words_of text)))) e) ∙ p.1) in
            quarter_line line (words_of text) (words_trimmed line) d.0 d.1)
      ]

not_late : (late : Bool) (fault : Option Kind) → cond late (Some LateHeader) fault ≡ None → late ≡ false
not_late true fault h = cc
not_late false fault h = refl

-- a line that tells a rule or a generation and breaks no rule stands before all squares
pub command_first : (top : ℕ) (before : List (List ℕ)) (line : List ℕ) (form : Form) → HasForm line form → is_no_command form ≡ false
    → broken_rule_after top before line ≡ None
    → nat_lt 0 (length (map level_of (squares_of before))) ≡ false
command_first top before line blank_line h n e = cc
command_first top before line comment_line h n e = cc
command_first top before line (node_line square) h n e = cc
command_first top before line (rule_line rule) h n e = not_late (late top before line) (by_rule top before line)
    (sym (by_tests line false false true false true (late top before line) (by_rule top before line) (by_generation top before line) (by_node top before line)
    (rule_tests line h.text h.is)) ∙ e)
command_first top before line (generation_line generation) h n e = not_late (late top before line) (by_generation top before line)
    (sym (by_tests line false false false true true (late top before line) (by_rule top before line) (by_generation top before line) (by_node top before line)
    (generation_tests line h.rest h.is)) ∙ e)

pub form_on : (top : ℕ) (before : List (List ℕ)) (line : List ℕ) → broken_rule_after top before line ≡ None → (form : Form) × HasForm line form
form_on top before line h = elim (split (is_blank line) None _ h) [
  | inl p ↦ (blank_line, p.0)
  | inr p ↦ elim (split (begins_with line (codes "#FRAME")) (Some Timeline) _ p.1) [
    | inl q ↦ absurd (some_none Timeline q.1)
    | inr q ↦ elim (split ((is_letter_command 82 line || is_letter_command 71 line) && nat_lt 0 (length (map level_of (squares_of before)))) (Some LateHeader) _
        q.1) [
          | inl r ↦ absurd (some_none LateHeader r.1)
          | inr r ↦ elim (split (is_letter_command 82 line) (result_err (rule_of (drop 2 line))) _ r.1) [
            | inl s ↦ (let ok = ok_of (rule_of (drop 2 line)) s.1 in (rule_line ok.0, record { text = drop 2 line; is = commands 82 line s.0; says = ok.1 }))
            | inr s ↦ elim (split (is_letter_command 71 line) (result_err (u64_of (trim (drop 2 line)))) _ s.1) [
              | inl t ↦ (let text : List ℕ = trim (drop 2 line) in
                  let ok = both_pass (is_digit_text text) (nat_le (value_of text) (2 ^ 64 - 1)) (value_of text) t.1 in
                  let low = leb-true (value_of text) (2 ^ 64 - 1) ok.1 in (
                    generation_line (value_of text),
                    record {
                      rest = drop 2 line;
                      digits = text;
                      is = commands 71 line t.0;
                      around = trimmed_around (drop 2 line);
                      number = ok.0;
                      value = refl;
                      fits = omega arith;
                    },
                  ))
              | inr t ↦ elim (split (begins_with line (codes "#")) None _ t.1) [
                | inl u ↦ (
                  comment_line,
                  record {
                    hash = begins (codes "#") line u.0;
                    no_frame = λ b. true≢false (sym (begun (codes "#FRAME") line b) ∙ q.0);
                    no_rule = λ rest c. true≢false (sym (commanded 82 rest line c) ∙ s.0);
                    no_generation = λ rest c. true≢false (sym (commanded 71 rest line c) ∙ t.0);
                  },
                )
                | inr u ↦ (let n = node_on top (rule_in_force before) (map level_of (squares_of before)) line u.1 in (node_line n.0, n.1))
              ]
            ]
          ]
        ]
  ]
]
