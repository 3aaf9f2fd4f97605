-- The canonical text of a pattern is that of the layers.
use Rattle.std.proofs.Common.{◌≡◌, ℕ, zero, suc, ◌+◌, ◌^◌, ◌<◌, ◌≤◌, List, [], ◌++◌, map, true, ◌&&◌, refl, ap, ◌∙◌, sym, subst, arith, ◌⊎◌, inl, inr, ℤ, pos, neg_ℤ, ◌+ℤ◌, ◌≤ℤ◌, ◌<ℤ◌, int_le, int_lt, codes, flat_map, true≢false}
use Rattle.std.proofs.lemmas.Int.{ints}
use Rattle.std.proofs.lemmas.Bool.{and_from, cases_Bool}
use Rattle.life_base.specs.Tree.{Tree, depth}
use Rattle.life_base.specs.declared.rule.Rule.{Rule as LayerRule}
use Rattle.life_base.specs.declared.rule.Rule.TheVariants.{Life, Named}
use Rattle.life_mc.specs.Macrocell.{largest_state}
use Rattle.life_rle.specs.Written.{rle_text}
use Rattle.life_mc.specs.Writing.{mc_text, node_text, generation_line_text}
use Rattle.life_pattern.specs.Universe.{Universe, IsOnPlane, IsWithin, IsBlankOutside, corner, centred_square, whole, least_level as layer_least}
use Rattle.life_pattern.specs.Laws.{FilesAreOnPlane}
use Rattle.life_writer.specs.Texts.{IsCanonical, IsRleOf}
use Rattle.life_writer.specs.Listing.{walk as tree_walk, canonical_file, canon_text, line_of, listed_squares, square_file, with_all}
use Rattle.life_writer.proofs.WholeSquares.{IsLeastSquare, least_square}
use Rattle.claims.specs.Pattern.{Pattern}
use Rattle.claims.specs.Canonical.{Square, claimed_square_at, middle_square, is_in_middle, HoldsAllCells, claimed_least_level, claimed_walk, first_visits, square_line, claimed_square_text, IsTextOfPattern}
use Rattle.claims.proofs.RuleLaw.{rule_in}
use Rattle.claims.specs.RleText.{IsRleOfPattern}
use Rattle.claims.proofs.RleTextLaw.{rle_of_pattern}
use Rattle.theorems.specs.Patterns.{IsRleOfFile, IsTextOfFile}
use Rattle.theorems.proofs.CellsLaw.{same_cells}
use Rattle.theorems.proofs.FileLaw.{files_agree}
use Rattle.theorems.proofs.ShownLaw.{rule_text_is}
use Rattle.theorems.proofs.SquareLaw.{tree, HasLevel, square_is, level_at, walk_is, visits_are, walk_has, visits_have, lines_are}
use Rattle.life_base.proofs.Basics.{within_span, right_of_and, left_of_and, double, less_one}

-- ---- the text of a square

least_is : (rule : LayerRule) → claimed_least_level (rule_in rule) ≡ layer_least rule
least_is (Life sets) = refl
least_is (Named name) = refl

squares_are : (rule : LayerRule) (s : Square) → map tree (first_visits [] (claimed_walk (claimed_least_level (rule_in rule)) s))
    ≡ listed_squares (tree s) (layer_least rule)
unfolding listed_squares
squares_are rule s =
    visits_are [] (claimed_walk (claimed_least_level (rule_in rule)) s) ∙ ap (with_all [])
    (walk_is (claimed_least_level (rule_in rule)) s ∙ ap (λ m. tree_walk (tree s) m) (least_is rule))

text_is : (rule : LayerRule) (generation : ℕ) {level : ℕ} (s : Square) → HasLevel (largest_state rule) level s
    → claimed_square_text (rule_in rule) generation s ≡ mc_text (square_file rule generation (tree s))
text_is rule generation s h =
    let squares = first_visits [] (claimed_walk (claimed_least_level (rule_in rule)) s) in
    let have = visits_have (largest_state rule) [] (claimed_walk (claimed_least_level (rule_in rule)) s) tt
    (walk_has (largest_state rule) (claimed_least_level (rule_in rule)) h) in
    let all : List Tree = listed_squares (tree s) (layer_least rule) in
    let lines : flat_map (square_line (rule_in rule) squares) squares ≡ flat_map node_text (map (line_of rule all) all) =
    lines_are rule squares squares have ∙ ap (λ (t : List Tree). flat_map node_text (map (line_of rule t) t)) (squares_are rule s) in
    λ i. codes "[M2] (canonical 1)\n#R " ++ rule_text_is rule i ++ codes "\n" ++ generation_line_text generation ++ lines i

-- ---- the plane

middle_is : (f : ℤ → ℤ → ℕ) (k : ℕ) → tree (middle_square f (suc k)) ≡ centred_square f (suc k)
unfolding centred_square corner
middle_is f k =
    ap (λ n. tree (claimed_square_at f (suc k) (neg_ℤ (pos (2 ^ n))) (neg_ℤ (pos (2 ^ n))))) (less_one k) ∙ square_is f (suc k) (neg_ℤ (pos (2 ^ k)))
    (neg_ℤ (pos (2 ^ k)))

west_of : (x : ℤ) (h : ℕ) → (int_le (neg_ℤ (pos h)) x && int_lt x (pos h)) ≡ true → neg_ℤ (pos h) ≤ℤ x
west_of x h e = grind (arith, ints, e)

east_of : (x : ℤ) (h : ℕ) → (int_le (neg_ℤ (pos h)) x && int_lt x (pos h)) ≡ true → x <ℤ pos h
east_of x h e = grind (arith, ints, e)

side : (x : ℤ) (h m : ℕ) → m ≡ h + h → x <ℤ pos h → x <ℤ (neg_ℤ (pos h) +ℤ pos m)
side x h m e l = omega (arith, ints, e, l)

side_back : (x : ℤ) (h m : ℕ) → m ≡ h + h → x <ℤ (neg_ℤ (pos h) +ℤ pos m) → x <ℤ pos h
side_back x h m e l = omega (arith, ints, e, l)

to_within : (k : ℕ) (x : ℤ) → is_in_middle (suc k) x ≡ true → IsWithin (suc k) x
unfolding corner
to_within k x e =
    let h : (int_le (neg_ℤ (pos (2 ^ k))) x && int_lt x (pos (2 ^ k))) ≡ true =
    sym (ap (λ n. int_le (neg_ℤ (pos (2 ^ n))) x && int_lt x (pos (2 ^ n))) (less_one k)) ∙ e in
    (west_of x (2 ^ k) h, side x (2 ^ k) (2 ^ suc k) (double k) (east_of x (2 ^ k) h))

from_within : (k : ℕ) (x : ℤ) → IsWithin (suc k) x → is_in_middle (suc k) x ≡ true
unfolding corner
from_within k x w =
    ap (λ n. int_le (neg_ℤ (pos (2 ^ n))) x && int_lt x (pos (2 ^ n))) (less_one k)
    ∙ within_span x (2 ^ k) w.0 (side_back x (2 ^ k) (2 ^ suc k) (double k) w.1)

holds_all : (f : ℤ → ℤ → ℕ) (k : ℕ) → IsBlankOutside (suc k) f → HoldsAllCells f (suc k)
holds_all f k outside x y e =
    outside x y (λ w. true≢false (sym (and_from (is_in_middle (suc k) x) (is_in_middle (suc k) y) (from_within k x w.0) (from_within k y w.1)) ∙ e))

outside_all : (f : ℤ → ℤ → ℕ) (k : ℕ) → HoldsAllCells f (suc k) → IsBlankOutside (suc k) f
outside_all f k holds x y never = elim (cases_Bool (is_in_middle (suc k) x && is_in_middle (suc k) y)) [
  | inl e ↦ absurd (never (to_within k x (left_of_and (is_in_middle (suc k) x) _ e), to_within k y (right_of_and (is_in_middle (suc k) x) _ e)))
  | inr e ↦ holds x y e
]

-- no square with a line has level 0
no_zero : (rule : LayerRule) → layer_least rule ≤ zero → ⊥
no_zero (Life sets) h = omega (arith, h)
no_zero (Named name) h = omega (arith, h)

-- the canonical text is that of the pattern
pub own_text : (u : Universe) → IsOnPlane 62 u
    → IsTextOfPattern (record { rule = rule_in u.rule; generation = u.generation; cell = u.cell }) (canon_text 62 u)
unfolding canon_text canonical_file
own_text u on =
    let w = least_square u on in
    let s = middle_square u.cell (suc w.level) in
    record {
      level = suc w.level;
      high = subst (λ n. n ≤ suc w.level) (sym (least_is u.rule)) w.high;
      holds = holds_all u.cell w.level w.outside;
      least = λ lower h holds. no_lower w lower (subst (λ n. n ≤ lower) (least_is u.rule) h) holds;
      is = ap (λ (t : Tree). mc_text (square_file u.rule u.generation t)) (w.is ∙ sym (middle_is u.cell w.level))
          ∙ sym (text_is u.rule u.generation s (level_at u.cell (largest_state u.rule) on.states (suc w.level) _ _));
    }
  where
    no_lower : (w : IsLeastSquare u) (lower : ℕ) → layer_least u.rule ≤ lower → HoldsAllCells u.cell lower → suc w.level ≤ lower
    no_lower w zero h holds = absurd (no_zero u.rule h)
    no_lower w (suc j) h holds = let l = w.least j h (outside_all u.cell j holds) in omega (arith, l)

-- and of each pattern that agrees with it
pub text_of_pattern : (u : Universe) (pattern : Pattern) (text : List ℕ) → IsOnPlane 62 u → pattern.rule ≡ rule_in u.rule
    → pattern.generation ≡ u.generation → ((x y : ℤ) → pattern.cell x y ≡ u.cell x y) → text ≡ canon_text 62 u → IsTextOfPattern pattern text
text_of_pattern u pattern text on rule generation cells is =
    let same : record { rule = rule_in u.rule; generation = u.generation; cell = u.cell } ≡ pattern =
    λ i. record { rule = sym rule i; generation = sym generation i; cell = λ x y. sym (cells x y) i } in
    subst (λ (t : List ℕ). IsTextOfPattern pattern t) (sym is)
    (subst (λ (p : Pattern). IsTextOfPattern p (canon_text 62 u)) same (own_text u on))

-- and of each file
pub text_of_file : FilesAreOnPlane 62 → (file text : List ℕ) → IsCanonical 62 file text → IsTextOfFile file text
text_of_file on_plane file text c =
    let p = files_agree file c.universe c.reads in
    (p.pattern, p.is, text_of_pattern c.universe p.pattern text (on_plane file c.universe c.reads) p.rule p.generation p.cells c.is)

-- the text in extended RLE that is written of a file is that of its pattern
pub rle_of_file : (file text : List ℕ) → IsRleOf 62 (2 ^ 20) file text → IsRleOfFile file text
rle_of_file file text h =
    let u = h.universe in
    let p = files_agree file u h.reads in
    let same : record { rule = rule_in u.rule; generation = u.generation; cell = u.cell } ≡ p.pattern =
    λ i. record { rule = sym p.rule i; generation = sym p.generation i; cell = λ x y. sym (p.cells x y) i } in
    let own = rle_of_pattern rule_text_is u.rule u.generation u.cell h.cells (same_cells u.cell u.cell h.cells refl h.are) in (
      p.pattern,
      p.is,
      subst (λ (t : List ℕ). IsRleOfPattern p.pattern t) (sym h.is)
          (subst (λ (q : Pattern). IsRleOfPattern q (rle_text u.rule u.generation h.cells)) same own),
    )

-- a pattern has one text
pub one_text_of : (pattern : Pattern) (s t : List ℕ) → IsTextOfPattern pattern s → IsTextOfPattern pattern t → s ≡ t
one_text_of pattern s t a b =
    let up = a.least b.level b.high b.holds in
    let down = b.least a.level a.high a.holds in
    let level : a.level ≡ b.level = omega (arith, up, down) in
    a.is ∙ ap (λ n. claimed_square_text pattern.rule pattern.generation (middle_square pattern.cell n)) level ∙ sym b.is
