-- The squares of a canonical text are the trees of the layers, and its node lines are theirs.
use Rattle.std.proofs.Common.{◌≡◌, ℕ, zero, suc, ◌+◌, ◌*◌, ◌≤◌, List, [], ◌∷◌, ◌++◌, map, Bool, true, false, cond, not, ◌&&◌, ◌||◌, refl, ap, ◌∙◌, sym, subst, arith, eqb-true, append_assoc, ℤ, ◌==◌, nat_lt, bytes_eq, codes, decimal, flat_map, append-nil}
use Rattle.std.specs.List.{list_any, position_or_len}
use Rattle.std.proofs.lemmas.List.{map-append}
use Rattle.std.proofs.lemmas.Bool.Decides.{nat_tests}
use Rattle.std.proofs.lemmas.Slice.Eq.{bytes_eq-Decides}
use Rattle.life_base.specs.Tree.{Tree, quad, depth, is_blank_tree, point as tree_point}
use Rattle.life_base.specs.declared.rule.Rule.{Rule as LayerRule}
use Rattle.life_base.specs.declared.rule.Rule.TheVariants.{Life, Named}
use Rattle.life_mc.specs.Macrocell.{largest_state}
use Rattle.life_mc.specs.Writing.{line_text, node_text, row_text, leaf_row_text}
use Rattle.life_mc.specs.declared.line.Line.TheVariants.{Leaf}
use Rattle.life_pattern.specs.Universe.{square}
use Rattle.life_writer.specs.Listing.{same_tree, is_in, is_small, with_new, with_all, place, number_of_quarter, rows_of, quad_line, line_of, walk as tree_walk}
use Rattle.claims.specs.Canonical.{Square, point, quarters, claimed_square_at, square_level, is_blank_square, same_square, claimed_walk, first_visits, child_number, state_rows, leaf_row, square_line}
use Rattle.claims.proofs.Bits.{all_over, all_over_at, bit}
use Rattle.claims.proofs.RuleLaw.{rule_in}
use Rattle.life_base.proofs.Squares.{same_quads}
use Rattle.life_base.proofs.Basics.{equal_swapped}

abbrev pub tree : Square → Tree
tree (point state) = tree_point state
tree (quarters nw ne sw se) = quad (tree nw) (tree ne) (tree sw) (tree se)

-- the square has this level throughout, and no state is greater than this
pub data HasLevel (most : ℕ) : ℕ → Square → Type 0 where
  point_level : {state : ℕ} → state ≤ most → HasLevel most zero (point state)
  quarters_level : {level : ℕ} {nw ne sw se : Square} → HasLevel most level nw → HasLevel most level ne → HasLevel most level sw → HasLevel most level se
      → HasLevel most (suc level) (quarters nw ne sw se)

pub square_is : (f : ℤ → ℤ → ℕ) (level : ℕ) (x y : ℤ) → tree (claimed_square_at f level x y) ≡ square f level x y
unfolding square
square_is f zero x y = refl
square_is f (suc level) x y = same_quads (square_is f level x y) (square_is f level _ _) (square_is f level _ _) (square_is f level _ _)

pub level_at : (f : ℤ → ℤ → ℕ) (most : ℕ) → ((x y : ℤ) → f x y ≤ most) → (level : ℕ) (x y : ℤ) → HasLevel most level (claimed_square_at f level x y)
level_at f most few zero x y = point_level (few x y)
level_at f most few (suc level) x y =
    quarters_level (level_at f most few level x y) (level_at f most few level _ _) (level_at f most few level _ _) (level_at f most few level _ _)

-- ---- squares

level_is : (s : Square) → square_level s ≡ depth (tree s)
level_is (point state) = refl
level_is (quarters a b c d) = let h = level_is a in omega (arith, h)

depth_of : {most level : ℕ} {s : Square} → HasLevel most level s → depth (tree s) ≡ level
depth_of (point_level h) = refl
depth_of (quarters_level a b c d) = ap suc (depth_of a)

blank_is : (s : Square) → is_blank_square s ≡ is_blank_tree (tree s)
blank_is (point state) = refl
blank_is (quarters a b c d) = λ i. blank_is a i && blank_is b i && blank_is c i && blank_is d i

equal_is : (s t : Square) → same_square s t ≡ same_tree (tree t) (tree s)
equal_is (point a) (point b) = equal_swapped a b
equal_is (point a) (quarters e f g h) = refl
equal_is (quarters a b c d) (point e) = refl
equal_is (quarters a b c d) (quarters e f g h) = λ i. equal_is a e i && equal_is b f i && equal_is c g i && equal_is d h i

small_is : (m : ℕ) (a b c d : Square)
    → (is_blank_square (quarters a b c d) || nat_lt (square_level a + 1) m) ≡ is_small m (tree (quarters a b c d))
small_is m a b c d = λ i. blank_is (quarters a b c d) i || nat_lt (level_is (quarters a b c d) i) m

-- ---- the walk

map_unless : (v : Bool) (xs : List Square) → map tree (cond v [] xs) ≡ cond v [] (map tree xs)
map_unless true xs = refl
map_unless false xs = refl

five : (ws bs cs ds es : List Square) → map tree (ws ++ bs ++ cs ++ ds ++ es) ≡ map tree ws ++ (map tree bs ++ (map tree cs ++ (map tree ds ++ map tree es)))
five ws bs cs ds es =
    ap (λ (t : List Square). map tree t)
    (append_assoc (ws ++ bs ++ cs) ds es ∙ append_assoc (ws ++ bs) cs (ds ++ es) ∙ append_assoc ws bs (cs ++ (ds ++ es)))
    ∙ map-append tree ws (bs ++ (cs ++ (ds ++ es)))
    ∙ ap (λ (t : List Tree). map tree ws ++ t) (map-append tree bs (cs ++ (ds ++ es))
    ∙ ap (λ (t : List Tree). map tree bs ++ t) (map-append tree cs (ds ++ es)
    ∙ ap (λ (t : List Tree). map tree cs ++ t) (map-append tree ds es)))

pub walk_is : (m : ℕ) (s : Square) → map tree (claimed_walk m s) ≡ tree_walk (tree s) m
walk_is m (point state) = refl
walk_is m (quarters a b c d) =
    map_unless (is_blank_square (quarters a b c d) || nat_lt (square_level a + 1) m)
    (claimed_walk m a ++ claimed_walk m b ++ claimed_walk m c ++ claimed_walk m d ++ quarters a b c d ∷ [])
    ∙ (λ i. cond (small_is m a b c d i) [] (five (claimed_walk m a) (claimed_walk m b) (claimed_walk m c) (claimed_walk m d) (quarters a b c d ∷ []) i))
    ∙ (λ i. cond (is_small m (tree (quarters a b c d))) []
    (walk_is m a i ++ (walk_is m b i ++ (walk_is m c i ++ (walk_is m d i ++ tree (quarters a b c d) ∷ [])))))

known_is : (s : Square) (known : List Square) → list_any (same_square s) known ≡ is_in (map tree known) (tree s)
known_is s [] = refl
known_is s (t ∷ known) = λ i. equal_is s t i || known_is s known i

added_is : (s : Square) (known : List Square) → map tree (cond (list_any (same_square s) known) known (known ++ s ∷ [])) ≡ with_new (map tree known) (tree s)
added_is s known = map_if (list_any (same_square s) known) ∙ (λ i. cond (known_is s known i) (map tree known) (map-append tree known (s ∷ []) i))
  where
    map_if : (v : Bool) → map tree (cond v known (known ++ s ∷ [])) ≡ cond v (map tree known) (map tree (known ++ s ∷ []))
    map_if true = refl
    map_if false = refl

pub visits_are : (known squares : List Square) → map tree (first_visits known squares) ≡ with_all (map tree known) (map tree squares)
visits_are known [] = refl
visits_are known (s ∷ squares) =
    visits_are (cond (list_any (same_square s) known) known (known ++ s ∷ [])) squares
    ∙ ap (λ (t : List Tree). with_all t (map tree squares)) (added_is s known)

place_is : (s : Square) (all : List Square) → position_or_len (same_square s) all ≡ place (map tree all) (tree s)
place_is s [] = refl
place_is s (t ∷ all) = by (same_square s t) (position_or_len (same_square s) all) ∙ (λ i. cond (equal_is s t i) 0 (suc (place_is s all i)))
  where
    by : (v : Bool) (n : ℕ) → cond (not v) (1 + n) 0 ≡ cond v 0 (suc n)
    by true n = refl
    by false n = omega arith

number_is : (all : List Square) (s : Square) → child_number all s ≡ number_of_quarter (map tree all) (tree s)
number_is all (point state) = refl
number_is all (quarters a b c d) =
    let s = quarters a b c d in
    let next : position_or_len (same_square s) all + 1 ≡ suc (place (map tree all) (tree s)) = plus _ ∙ ap suc (place_is s all) in
    λ i. cond (blank_is s i) 0 (next i)
  where
    plus : (n : ℕ) → n + 1 ≡ suc n
    plus n = omega arith

-- ---- the squares of a list have levels

abbrev pub AllHaveLevels : ℕ → List Square → Type 0
AllHaveLevels most [] = Unit {0}
AllHaveLevels most (s ∷ squares) = ((level : ℕ) × HasLevel most (suc level) s) × AllHaveLevels most squares

both_have : (most : ℕ) (xs ys : List Square) → AllHaveLevels most xs → AllHaveLevels most ys → AllHaveLevels most (xs ++ ys)
both_have most [] ys h l = l
both_have most (x ∷ xs) ys h l = (h.0, both_have most xs ys h.1 l)

either_has : (most : ℕ) (v : Bool) (xs ys : List Square) → AllHaveLevels most xs → AllHaveLevels most ys → AllHaveLevels most (cond v xs ys)
either_has most true xs ys h l = h
either_has most false xs ys h l = l

pub walk_has : (most m : ℕ) {level : ℕ} {s : Square} → HasLevel most level s → AllHaveLevels most (claimed_walk m s)
walk_has most m (point_level h) = tt
walk_has most m (quarters_level {level = level} {nw = a} {ne = b} {sw = c} {se = d} p q r s) =
    let last = quarters a b c d ∷ [] in
    either_has most (is_blank_square (quarters a b c d) || nat_lt (square_level a + 1) m) []
    (claimed_walk m a ++ claimed_walk m b ++ claimed_walk m c ++ claimed_walk m d ++ last) tt
    (both_have most (claimed_walk m a ++ claimed_walk m b ++ claimed_walk m c ++ claimed_walk m d) last
    (both_have most (claimed_walk m a ++ claimed_walk m b ++ claimed_walk m c) (claimed_walk m d)
    (both_have most (claimed_walk m a ++ claimed_walk m b) (claimed_walk m c)
    (both_have most (claimed_walk m a) (claimed_walk m b) (walk_has most m p) (walk_has most m q)) (walk_has most m r)) (walk_has most m s))
    ((level, quarters_level p q r s), tt))

pub visits_have : (most : ℕ) (known squares : List Square) → AllHaveLevels most known → AllHaveLevels most squares
    → AllHaveLevels most (first_visits known squares)
visits_have most known [] h l = h
visits_have most known (s ∷ squares) h l =
    visits_have most (cond (list_any (same_square s) known) known (known ++ s ∷ [])) squares
    (either_has most (list_any (same_square s) known) known (known ++ s ∷ []) h (both_have most known (s ∷ []) h (l.0, tt))) l.1

-- ---- a leaf

abbrev one : Bool → ℕ
one v = cond v 1 0

abbrev row_states : List Bool → List ℕ
row_states bits =
    one (bit bits 0) ∷ one (bit bits 1) ∷ one (bit bits 2) ∷ one (bit bits 3) ∷ one (bit bits 4) ∷ one (bit bits 5) ∷ one (bit bits 6) ∷ one (bit bits 7) ∷ []

abbrev row_number : List Bool → ℕ
row_number bits =
    128 * one (bit bits 0) + 64 * one (bit bits 1) + 32 * one (bit bits 2) + 16 * one (bit bits 3) + 8 * one (bit bits 4) + 4 * one (bit bits 5)
    + 2 * one (bit bits 6) + one (bit bits 7)

abbrev row_test : List Bool → Bool
unfolding leaf_row_text
row_test bits = bytes_eq (leaf_row (row_states bits)) (row_text (row_number bits))

rows_pass : all_over 8 row_test ≡ true
unfolding leaf_row_text
rows_pass = refl

is_one : (a : ℕ) → a ≤ 1 → a ≡ one (a == 1)
is_one a h = grind (arith, nat_tests)

row_is : (a b c d e f g h : ℕ) → a ≤ 1 → b ≤ 1 → c ≤ 1 → d ≤ 1 → e ≤ 1 → f ≤ 1 → g ≤ 1 → h ≤ 1
    → leaf_row (a ∷ b ∷ c ∷ d ∷ e ∷ f ∷ g ∷ h ∷ []) ≡ row_text (128 * a + 64 * b + 32 * c + 16 * d + 8 * e + 4 * f + 2 * g + h)
unfolding row_test
row_is a b c d e f g h pa pb pc pd pe pf pg ph =
    let bits : List Bool = (a == 1) ∷ (b == 1) ∷ (c == 1) ∷ (d == 1) ∷ (e == 1) ∷ (f == 1) ∷ (g == 1) ∷ (h == 1) ∷ [] in
    (λ i. leaf_row (is_one a pa i ∷ is_one b pb i ∷ is_one c pc i ∷ is_one d pd i ∷ is_one e pe i ∷ is_one f pf i ∷ is_one g pg i ∷ is_one h ph i ∷ []))
    ∙ (bytes_eq-Decides (leaf_row (row_states bits)) (row_text (row_number bits))).0 (all_over_at bits row_test rows_pass)
    ∙ sym (λ i. row_text (128 * is_one a pa i + 64 * is_one b pb i + 32 * is_one c pc i + 16 * is_one d pd i + 8 * is_one e pe i + 4 * is_one f pf i
    + 2 * is_one g pg i + is_one h ph i))

leaf_is : (s : Square) → HasLevel 1 (suc (suc (suc zero))) s → flat_map leaf_row (state_rows s) ≡ flat_map row_text (rows_of (tree s))
unfolding rows_of
leaf_is _ (quarters_level (quarters_level (quarters_level (point_level {state = s00} h00) (point_level {state = s10} h10)
    (point_level {state = s01} h01) (point_level {state = s11} h11))
    (quarters_level (point_level {state = s20} h20) (point_level {state = s30} h30) (point_level {state = s21} h21) (point_level {state = s31} h31))
    (quarters_level (point_level {state = s02} h02) (point_level {state = s12} h12) (point_level {state = s03} h03) (point_level {state = s13} h13))
    (quarters_level (point_level {state = s22} h22) (point_level {state = s32} h32) (point_level {state = s23} h23) (point_level {state = s33} h33)))
    (quarters_level (quarters_level (point_level {state = s40} h40) (point_level {state = s50} h50) (point_level {state = s41} h41)
    (point_level {state = s51} h51)) (quarters_level (point_level {state = s60} h60) (point_level {state = s70} h70) (point_level {state = s61} h61)
    (point_level {state = s71} h71)) (quarters_level (point_level {state = s42} h42) (point_level {state = s52} h52) (point_level {state = s43} h43)
    (point_level {state = s53} h53)) (quarters_level (point_level {state = s62} h62) (point_level {state = s72} h72) (point_level {state = s63} h63)
    (point_level {state = s73} h73))) (quarters_level (quarters_level (point_level {state = s04} h04) (point_level {state = s14} h14)
    (point_level {state = s05} h05) (point_level {state = s15} h15))
    (quarters_level (point_level {state = s24} h24) (point_level {state = s34} h34) (point_level {state = s25} h25) (point_level {state = s35} h35))
    (quarters_level (point_level {state = s06} h06) (point_level {state = s16} h16) (point_level {state = s07} h07) (point_level {state = s17} h17))
    (quarters_level (point_level {state = s26} h26) (point_level {state = s36} h36) (point_level {state = s27} h27) (point_level {state = s37} h37)))
    (quarters_level (quarters_level (point_level {state = s44} h44) (point_level {state = s54} h54) (point_level {state = s45} h45)
    (point_level {state = s55} h55)) (quarters_level (point_level {state = s64} h64) (point_level {state = s74} h74) (point_level {state = s65} h65)
    (point_level {state = s75} h75)) (quarters_level (point_level {state = s46} h46) (point_level {state = s56} h56) (point_level {state = s47} h47)
    (point_level {state = s57} h57)) (quarters_level (point_level {state = s66} h66) (point_level {state = s76} h76) (point_level {state = s67} h67)
    (point_level {state = s77} h77)))) =
    λ i.
    row_is s00 s10 s20 s30 s40 s50 s60 s70 h00 h10 h20 h30 h40 h50 h60 h70 i ++ (
    row_is s01 s11 s21 s31 s41 s51 s61 s71 h01 h11 h21 h31 h41 h51 h61 h71 i ++ (
    row_is s02 s12 s22 s32 s42 s52 s62 s72 h02 h12 h22 h32 h42 h52 h62 h72 i ++ (
    row_is s03 s13 s23 s33 s43 s53 s63 s73 h03 h13 h23 h33 h43 h53 h63 h73 i ++ (
    row_is s04 s14 s24 s34 s44 s54 s64 s74 h04 h14 h24 h34 h44 h54 h64 h74 i ++ (
    row_is s05 s15 s25 s35 s45 s55 s65 s75 h05 h15 h25 h35 h45 h55 h65 h75 i ++ (
    row_is s06 s16 s26 s36 s46 s56 s66 s76 h06 h16 h26 h36 h46 h56 h66 h76 i ++ (
    row_is s07 s17 s27 s37 s47 s57 s67 s77 h07 h17 h27 h37 h47 h57 h67 h77 i ++ [])))))))

-- ---- the lines

nine : (l a b c d space : List ℕ)
    → l ++ space ++ a ++ space ++ b ++ space ++ c ++ space ++ d ≡ l ++ (space ++ (a ++ (space ++ (b ++ (space ++ (c ++ (space ++ d)))))))
nine l a b c d space =
    append_assoc (l ++ space ++ a ++ space ++ b ++ space ++ c) space d
    ∙ append_assoc (l ++ space ++ a ++ space ++ b ++ space) c (space ++ d)
    ∙ append_assoc (l ++ space ++ a ++ space ++ b) space (c ++ (space ++ d))
    ∙ append_assoc (l ++ space ++ a ++ space) b (space ++ (c ++ (space ++ d)))
    ∙ append_assoc (l ++ space ++ a) space (b ++ (space ++ (c ++ (space ++ d))))
    ∙ append_assoc (l ++ space) a (space ++ (b ++ (space ++ (c ++ (space ++ d)))))
    ∙ append_assoc l space (a ++ (space ++ (b ++ (space ++ (c ++ (space ++ d))))))

quarters_are : (all : List Square) (a b c d : Square)
    → decimal (square_level a + 1) ++ flat_map (λ quarter. codes " " ++ decimal (child_number all quarter)) (a ∷ b ∷ c ∷ d ∷ [])
    ≡ line_text (quad_line (map tree all) (tree (quarters a b c d)))
quarters_are all a b c d =
    let numbers = map tree all in
    (λ i. decimal (level_is (quarters a b c d) i) ++ (codes " " ++ (decimal (number_is all a i) ++ (codes " " ++ (decimal (number_is all b i) ++ (codes " "
    ++ (decimal (number_is all c i) ++ (codes " " ++ append-nil (decimal (number_is all d i)) i))))))))
    ∙ sym (nine (decimal (depth (tree (quarters a b c d)))) (decimal (number_of_quarter numbers (tree a))) (decimal (number_of_quarter numbers (tree b)))
    (decimal (number_of_quarter numbers (tree c))) (decimal (number_of_quarter numbers (tree d))) (codes " "))

line_is : (rule : LayerRule) (all : List Square) {level : ℕ} {s : Square} → HasLevel (largest_state rule) (suc level) s
    → square_line (rule_in rule) all s ≡ node_text (line_of rule (map tree all) (tree s))
line_is (Named name) all (quarters_level {nw = a} {ne = b} {sw = c} {se = d} p q r s) = ap (λ (t : List ℕ). t ++ codes "\n") (quarters_are all a b c d)
line_is (Life sets) all (quarters_level {level = level} {nw = a} {ne = b} {sw = c} {se = d} p q r s) =
    ap (λ v. cond v (flat_map leaf_row (state_rows (quarters a b c d))) texts ++ codes "\n") (ap (λ n. n == 3) (level_is (quarters a b c d)))
    ∙ by (depth (tree (quarters a b c d)) == 3) refl
  where
    texts : List ℕ
    texts = decimal (square_level a + 1) ++ flat_map (λ quarter. codes " " ++ decimal (child_number all quarter)) (a ∷ b ∷ c ∷ d ∷ [])

    by : (v : Bool) → (depth (tree (quarters a b c d)) == 3) ≡ v
        → cond v (flat_map leaf_row (state_rows (quarters a b c d))) texts ++ codes "\n"
        ≡ node_text (cond v (Leaf (rows_of (tree (quarters a b c d)))) (quad_line (map tree all) (tree (quarters a b c d))))
    by false e = ap (λ (t : List ℕ). t ++ codes "\n") (quarters_are all a b c d)
    by true e =
        let three : suc level ≡ 3 = sym (depth_of (quarters_level p q r s)) ∙ eqb-true (depth (tree (quarters a b c d))) 3 e in
        ap (λ (t : List ℕ). t ++ codes "\n")
        (leaf_is (quarters a b c d) (subst (λ n. HasLevel 1 n (quarters a b c d)) three (quarters_level p q r s)))

pub lines_are : (rule : LayerRule) (all squares : List Square) → AllHaveLevels (largest_state rule) squares
    → flat_map (square_line (rule_in rule) all) squares ≡ flat_map node_text (map (line_of rule (map tree all)) (map tree squares))
lines_are rule all [] h = refl
lines_are rule all (s ∷ squares) h = λ i. line_is rule all h.0.1 i ++ lines_are rule all squares h.1 i
