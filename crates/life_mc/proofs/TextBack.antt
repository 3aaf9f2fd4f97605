-- The text of a file is a macrocell file that says the same.
use Rattle.std.proofs.Common.{◌≡◌, ℕ, zero, suc, ◌-◌, ◌^◌, ◌<◌, ◌≤◌, List, [], ◌∷◌, ◌++◌, length, take, drop, Bool, true, false, cond, not, ◌&&◌, ◌||◌, refl, ap, sym, subst, ◌∙◌, arith, append_assoc, decimal, nat_le, nat_lt, ◌==◌, map, flat_map, codes, bytes_eq, Some, None, leb-true, eqb-true, append-nil}
use Rattle.std.specs.List.{slice_get}
use Rattle.std.specs.Result.{result_ok, result_err}
use Rattle.std.proofs.lemmas.List.{map-append}
use Rattle.std.proofs.Math.Seq.{take-append_seam}
use mathlib.Core.Bool.{and-true}
use Rattle.life_base.specs.Text.{lines_of, is_blank, begins_with, trim, value_of}
use Rattle.life_base.specs.Numbers.{u64_of}
use Rattle.life_base.specs.Rules.{rule_of, rule_text, default_rule, IsRule}
use Rattle.life_base.specs.declared.kind.Kind.TheVariants.{Timeline, LateHeader, BadLeaf}
use Rattle.life_base.specs.declared.rule.Rule.{Rule}
use Rattle.life_mc.specs.Macrocell.{Macrocell, AreSquares, IsSquare, IsValidMacrocell, level_of, is_quarter, is_child, is_level, largest_state}
use Rattle.life_mc.specs.Reading.{IsMacrocell, broken_by_node, broken_by_square, is_letter_command, squares_of, square_of_text, broken_after}
use Rattle.life_mc.specs.Standing.{Standing, StandsAfter, IsParsed}
use Rattle.life_mc.specs.Writing.{mc_text, line_text, TextsReadBack}
use Rattle.life_mc.specs.declared.line.Line.{Line}
use Rattle.life_mc.specs.declared.line.Line.TheVariants.{Leaf, Quad}
use Rattle.life_mc.specs.declared.line.ParsedLine.TheVariants.{RuleLine, GenerationLine, NodeLine}
use Rattle.life_mc.proofs.HeaderLines.{rule_short, rule_line, rule_stands, rule_parsed, generation_line, generation_stands, generation_parsed, generation_short}
use Rattle.life_mc.proofs.LineTexts.{IsTextOf, leaf_text, quad_text}
use Rattle.life_mc.proofs.ReadBack.{has_no_feed}
use Rattle.life_mc.proofs.ReadLines.{squares_some, get_seam, some_lines}
use Rattle.life_mc.proofs.Stands.{stands_first, stands_next, square_ok}
use Rattle.life_mc.proofs.TestFacts.{all_four, few_states}
use Rattle.life_base.proofs.WholeLines.{first_of_lines}
use Rattle.life_base.proofs.Basics.{suc_not_zero}

-- ---- a square's text, where the squares before it have these levels

level_within : (levels : List ℕ) (i level : ℕ) → is_level level (slice_get levels i) ≡ true → i < length levels
level_within [] i level h = cc
level_within (l ∷ levels) zero level h = omega arith
level_within (l ∷ levels) (suc i) level h = omega (arith, level_within levels i level h)

child_within : (levels : List ℕ) (level n : ℕ) → is_child levels level n ≡ true → n ≤ length levels
child_within levels level zero h = omega arith
child_within levels level (suc i) h = omega (arith, level_within levels i level (by (suc i == 0) (is_level level (slice_get levels i)) (suc_not_zero i) h))
  where
    by : (v w : Bool) → v ≡ false → (v || w) ≡ true → w ≡ true
    by true w p q = cc
    by false w p q = q

module _ (rule : Rule) (levels : List ℕ) (few : length levels < 10 ^ 64) where
  quarter_small : (level n : ℕ) → is_quarter rule levels level n ≡ true → n < 10 ^ 64
  quarter_small level n h = by (level == 1) h
    where
      by : (v : Bool) → cond v (nat_le n (largest_state rule)) (is_child levels (level - 1) n) ≡ true → n < 10 ^ 64
      by true e = omega (arith, leb-true n (largest_state rule) e, (few_states rule).1)
      by false e = omega (arith, child_within levels (level - 1) n e)

  -- the text of a square is a line that gives it back
  square_text : (top : ℕ) (line : Line) → top < 10 ^ 64 → IsSquare top rule levels line → IsTextOf line (line_text line)
  square_text top (Leaf rows) low h = leaf_text rows h.0 h.1
  square_text top (Quad level nw ne sw se) low h =
      let q = all_four (is_quarter rule levels level nw) (is_quarter rule levels level ne) (is_quarter rule levels level sw) (is_quarter rule levels level se)
      h.2 in
      quad_text level nw ne sw se (omega (arith, h.1)) (quarter_small level nw q.0) (quarter_small level ne q.1) (quarter_small level sw q.2)
      (quarter_small level se q.3)

-- ---- a node line

-- a line that doesn't begin with `#` is neither `#FRAME` nor a command
pub no_mark : (line : List ℕ) → begins_with line (codes "#") ≡ false → is_blank line ≡ false
    → (begins_with line (codes "#FRAME") ≡ false) × (is_letter_command 82 line ≡ false) × (is_letter_command 71 line ≡ false)
no_mark [] h b = cc
no_mark (c ∷ line) h b =
    let e : (c == 35) ≡ false = sym (and-true (c == 35)) ∙ h in (
      ap (λ v. v && bytes_eq (take 5 line) (codes "FRAME")) e,
      ap (λ v. (v && bytes_eq (take 1 line) (82 ∷ [])) && is_blank (take 1 (drop 1 line))) e,
      ap (λ v. (v && bytes_eq (take 1 line) (71 ∷ [])) && is_blank (take 1 (drop 1 line))) e,
    )

module _ (top : ℕ) (rule : Rule) (levels : List ℕ) (line : Line) (text : List ℕ) (t : IsTextOf line text) where
  mark : (begins_with text (codes "#FRAME") ≡ false) × (is_letter_command 82 text ≡ false) × (is_letter_command 71 text ≡ false)
  mark = no_mark text t.hash t.blank

  says : square_of_text (trim text) ≡ Some line
  says = ap square_of_text t.trimmed ∙ t.says

  node_parsed : IsParsed text (NodeLine line)
  node_parsed = (
    ap (λ v. cond v (result_ok (rule_of (drop 2 text))) None) mark.1,
    ap (λ v. cond v (Some (value_of (trim (drop 2 text)))) None) mark.2,
    by (is_blank text) (begins_with text (codes "#")) t.blank t.hash ∙ says,
  )
    where
      by : (v w : Bool) → v ≡ false → w ≡ false → cond (not v && not w) (square_of_text (trim text)) None ≡ square_of_text (trim text)
      by v w p q = rw (p, q) refl

  node_stands : IsSquare top rule levels line → broken_after top rule levels text ≡ None
  node_stands h =
      cascade (is_blank text) (begins_with text (codes "#FRAME")) (is_letter_command 82 text) (is_letter_command 71 text) (nat_lt 0 (length levels))
      (begins_with text (codes "#")) t.blank mark.0 mark.1 mark.2 t.hash
      ∙ ap (broken_by_node top rule levels) t.trimmed
      ∙ ap (λ v. cond v (Some BadLeaf) (broken_by_square top rule levels (square_of_text text))) t.no_bad_leaf
      ∙ ap (broken_by_square top rule levels) t.says ∙ square_ok top rule levels line h
    where
      cascade : (b f r g l m : Bool) → b ≡ false → f ≡ false → r ≡ false → g ≡ false → m ≡ false
          → cond b None (cond f (Some Timeline)
          (cond ((r || g) && l) (Some LateHeader)
          (cond r (result_err (rule_of (drop 2 text)))
          (cond g (result_err (u64_of (trim (drop 2 text)))) (cond m None (broken_by_node top rule levels (trim text)))))))
          ≡ broken_by_node top rule levels (trim text)
      cascade b f r g l m p q s u w = rw (p, q, s, u, w) refl

-- ---- line after line

abbrev state : Rule → ℕ → List Line → Standing
state rule generation squares = record { started = true; rule = rule; generation = generation; levels = map level_of squares }

-- the lines so far say this
record Says (top : ℕ) (lines : List (List ℕ)) (rule : Rule) (generation : ℕ) (squares : List Line) : Type 0 where
  stands : StandsAfter top lines (state rule generation squares)
  squares_are : squares_of lines ≡ squares

abbrev header_line : List ℕ
header_line = codes "[M2] (canonical 1)"

module _ (top : ℕ) where
  nothing_yet : StandsAfter top [] (record { started = false; rule = default_rule; generation = 0; levels = [] })
  nothing_yet = record { unbroken = λ k h. absurd (omega arith); started = refl; rule = refl; generation = refl; levels = refl }

  header_says : Says top (header_line ∷ []) default_rule 0 []
  header_says = record {
    stands = (stands_first top [] header_line (record { started = false; rule = default_rule; generation = 0; levels = [] }) (state default_rule 0 [])
        nothing_yet (omega arith)
        refl refl refl refl refl refl).1;
    squares_are = refl;
  }

  rule_says : (rule : Rule) → IsRule rule → Says top (header_line ∷ rule_line rule ∷ []) rule 0 []
  rule_says rule h = record {
    stands = (stands_next top (header_line ∷ []) (rule_line rule) (state default_rule 0 []) (state rule 0 []) header_says.stands
        (omega (arith, (rule_short rule h).short))
        (RuleLine rule) refl (rule_stands top rule default_rule h) (rule_parsed top rule default_rule h) refl refl refl refl).1;
    squares_are = refl;
  }

  generation_says : (rule : Rule) (generation : ℕ) → IsRule rule → generation < 2 ^ 64
      → Says top (header_line ∷ rule_line rule ∷ generation_line generation ∷ []) rule generation []
  generation_says rule generation h g = record {
    stands = (stands_next top (header_line ∷ rule_line rule ∷ []) (generation_line generation) (state rule 0 []) (state rule generation [])
        (rule_says rule h).stands
        (omega (arith, (generation_short top rule generation g).short))
        (GenerationLine generation) refl (generation_stands top rule generation g) (generation_parsed top rule generation g) refl refl refl refl).1;
    squares_are = refl;
  }

few_levels : (k : ℕ) (lines : List Line) → length (map level_of (take k lines)) ≤ length lines
few_levels zero lines = omega arith
few_levels (suc k) [] = omega arith
few_levels (suc k) (line ∷ lines) = omega (arith, few_levels k lines)

module _ (top : ℕ) (low : top < 10 ^ 64) (rule : Rule) (generation : ℕ) (all : List Line) (valid : AreSquares top rule all) (few : length all < 10 ^ 64) where
  text_at : (k : ℕ) (line : Line) → slice_get all k ≡ Some line → IsTextOf line (line_text line)
  text_at k line g = square_text rule (map level_of (take k all)) (omega (arith, few_levels k all)) top line low (valid k line g)

  one_more : (done left : List Line) (line : Line) (lines : List (List ℕ)) → done ++ line ∷ left ≡ all → Says top lines rule generation done
      → Says top (lines ++ line_text line ∷ []) rule generation (done ++ line ∷ [])
  one_more done left line lines e s =
      let P : List Line → Type 0 = λ ys. slice_get ys (length done) ≡ Some line in
      let Q : List Line → Type 0 = λ ys. take (length done) ys ≡ done in
      let R : List Line → Type 0 = λ ys. IsSquare top rule (map level_of ys) line in
      let g : slice_get all (length done) ≡ Some line = subst P e (get_seam done line left) in
      let f : take (length done) all ≡ done = subst Q e (take-append_seam done (line ∷ left)) in
      let is : IsSquare top rule (map level_of done) line = subst R f (valid (length done) line g) in
      let t : IsTextOf line (line_text line) = text_at (length done) line g in
      let next = stands_next top lines (line_text line) (state rule generation done) (state rule generation (done ++ line ∷ [])) s.stands t.short
      (NodeLine line)
      refl (node_stands top rule (map level_of done) line (line_text line) t is) (node_parsed top rule (map level_of done) line (line_text line) t)
      refl refl refl (map-append level_of done (line ∷ [])) in
      record {
        stands = next.1;
        squares_are = squares_some lines (line_text line) line (sym next.0) ∙ ap (λ (xs : List Line). xs ++ line ∷ []) s.squares_are;
      }

  each_more : (left done : List Line) (lines : List (List ℕ)) → done ++ left ≡ all → Says top lines rule generation done
      → Says top (lines ++ map line_text left) rule generation all
  each_more [] done lines e s =
      let P : List Line → Type 0 = λ xs. Says top (lines ++ []) rule generation xs in
      let Q : List (List ℕ) → Type 0 = λ ls. Says top ls rule generation done in
      subst P (sym (append-nil done) ∙ e) (subst Q (sym (append-nil lines)) s)
  each_more (line ∷ left) done lines e s =
      let P : List (List ℕ) → Type 0 = λ ls. Says top ls rule generation all in
      subst P (append_assoc lines (line_text line ∷ []) (map line_text left))
      (each_more left (done ++ line ∷ []) (lines ++ line_text line ∷ []) (append_assoc done (line ∷ []) left ∙ e) (one_more done left line lines e s))

-- ---- the lines of the text

each_ended : (lines : List Line) → ((k : ℕ) (line : Line) → slice_get lines k ≡ Some line → IsTextOf line (line_text line))
    → lines_of (flat_map (λ line. line_text line ++ codes "\n") lines) ≡ map line_text lines
each_ended [] h = refl
each_ended (line ∷ lines) h =
    ap lines_of (append_assoc (line_text line) (codes "\n") (flat_map (λ line. line_text line ++ codes "\n") lines))
    ∙ first_of_lines (line_text line) (flat_map (λ line. line_text line ++ codes "\n") lines) (h 0 line refl).feed
    ∙ ap (λ (t : List (List ℕ)). line_text line ∷ t) (each_ended lines (λ k l g. h (suc k) l g))

-- a header, a line and what is after them
two_ended : (text rest : List ℕ) → has_no_feed text ≡ true
    → lines_of (codes "[M2] (canonical 1)\n#R " ++ text ++ codes "\n" ++ rest) ≡ header_line ∷ (codes "#R " ++ text) ∷ lines_of rest
two_ended text rest h =
    let e : codes "[M2] (canonical 1)\n#R " ++ text ++ codes "\n" ++ rest ≡ header_line ++ 10 ∷ ((codes "#R " ++ text) ++ 10 ∷ rest) = simp append_assoc refl in
    ap lines_of e ∙ first_of_lines header_line ((codes "#R " ++ text) ++ 10 ∷ rest) refl
    ∙ ap (λ (t : List (List ℕ)). header_line ∷ t) (first_of_lines (codes "#R " ++ text) rest h)

-- the text of a file in its parts
in_parts : (text generation rest : List ℕ) → codes "[M2] (canonical 1)\n#R " ++ text ++ codes "\n" ++ generation ++ rest ≡ codes "[M2] (canonical 1)\n#R "
    ++ text ++ codes "\n" ++ (generation ++ rest)
in_parts text generation rest = append_assoc (codes "[M2] (canonical 1)\n#R " ++ text ++ codes "\n") generation rest

generation_ended : (text rest : List ℕ) → has_no_feed text ≡ true → lines_of ((codes "#G " ++ text ++ codes "\n") ++ rest) ≡ (codes "#G " ++ text)
    ∷ lines_of rest
generation_ended text rest h = ap lines_of (append_assoc (codes "#G " ++ text) (codes "\n") rest) ∙ first_of_lines (codes "#G " ++ text) rest h

module _ (top : ℕ) (low : top < 10 ^ 64) (file : Macrocell) (v : IsValidMacrocell top file) (few : length file.lines < 10 ^ 64) where
  abbrev nodes : List ℕ
  nodes = flat_map (λ line. line_text line ++ codes "\n") file.lines

  nodes_ended : lines_of nodes ≡ map line_text file.lines
  nodes_ended = each_ended file.lines (text_at top low file.rule file.generation file.lines v.squares few)

  says_file : (lines : List (List ℕ)) → Says top lines file.rule file.generation [] → Says top (lines ++ map line_text file.lines) file.rule file.generation
      file.lines
  says_file lines s = each_more top low file.rule file.generation file.lines v.squares few file.lines [] lines refl s

  prefix_ended : (generation : List ℕ) → lines_of (codes "[M2] (canonical 1)\n#R " ++ rule_text file.rule ++ codes "\n" ++ generation ++ nodes) ≡ header_line
      ∷ rule_line file.rule ∷ lines_of (generation ++ nodes)
  prefix_ended generation = ap lines_of (in_parts (rule_text file.rule) generation nodes)
      ∙ two_ended (rule_text file.rule) (generation ++ nodes) (rule_short file.rule v.rule).feed

  all_lines : (b : Bool) → (file.generation == 0) ≡ b → Says top (lines_of (mc_text file)) file.rule file.generation file.lines
  all_lines true e =
      let z : file.generation ≡ 0 = eqb-true file.generation 0 e in
      let P : List (List ℕ) → Type 0 = λ ls. Says top ls file.rule file.generation file.lines in
      let Q : ℕ → Type 0 = λ g. Says top (header_line ∷ rule_line file.rule ∷ []) file.rule g [] in
      let t : lines_of (mc_text file) ≡ header_line ∷ rule_line file.rule ∷ map line_text file.lines =
      ap (λ w. lines_of (codes "[M2] (canonical 1)\n#R " ++ rule_text file.rule ++ codes "\n"
      ++ cond w [] (codes "#G " ++ decimal file.generation ++ codes "\n") ++ nodes)) e
      ∙ prefix_ended [] ∙ ap (λ (ls : List (List ℕ)). header_line ∷ rule_line file.rule ∷ ls) nodes_ended in
      subst P (sym t) (says_file (header_line ∷ rule_line file.rule ∷ []) (subst Q (sym z) (rule_says top file.rule v.rule)))
  all_lines false e =
      let P : List (List ℕ) → Type 0 = λ ls. Says top ls file.rule file.generation file.lines in
      let t : lines_of (mc_text file) ≡ header_line ∷ rule_line file.rule ∷ generation_line file.generation ∷ map line_text file.lines =
      ap (λ w. lines_of (codes "[M2] (canonical 1)\n#R " ++ rule_text file.rule ++ codes "\n"
      ++ cond w [] (codes "#G " ++ decimal file.generation ++ codes "\n") ++ nodes)) e
      ∙ prefix_ended (codes "#G " ++ decimal file.generation ++ codes "\n")
      ∙ ap (λ (ls : List (List ℕ)). header_line ∷ rule_line file.rule ∷ ls)
      (generation_ended (decimal file.generation) nodes (generation_short top file.rule file.generation v.generation).feed
      ∙ ap (λ (ls : List (List ℕ)). generation_line file.generation ∷ ls) nodes_ended) in
      subst P (sym t) (says_file (header_line ∷ rule_line file.rule ∷ generation_line file.generation ∷ [])
      (generation_says top file.rule file.generation v.rule v.generation))

  text_back : IsMacrocell top (mc_text file) file
  text_back =
      let s = all_lines (file.generation == 0) refl in
      record {
        header = some_lines (lines_of (mc_text file)) (sym s.stands.started);
        unbroken = s.stands.unbroken;
        rule = s.stands.rule;
        generation = s.stands.generation;
        squares = sym s.squares_are;
      }

-- the law, for each greatest level that is printed in 64 digits
pub texts_read_back : (top : ℕ) → top < 10 ^ 64 → TextsReadBack top
texts_read_back top low = λ file v few. text_back top low file v few
