-- The cells of a macrocell file are those of the layer below.
use Rattle.std.proofs.Common.{◌≡◌, ℕ, zero, suc, ◌+◌, ◌-◌, ◌/◌, ◌%◌, ◌^◌, ◌<◌, ◌≤◌, List, [], ◌∷◌, ◌++◌, length, take, map, replicate, Bool, true, false, cond, ◌&&◌, ◌||◌, refl, ap, ◌∙◌, sym, subst, arith, eqb-true, ltb-true, nat_le, nat_lt, ◌==◌, slice_get, slice_index, slice_index_or, sum_by, Option, Some, None, ℤ, pos, negsuc, neg_ℤ, ◌+ℤ◌, int_le, int_lt, unsigned_abs}
use Rattle.std.specs.List.{list_all}
use Rattle.std.proofs.Math.Nat.{mod-lt, two-pow-succ}
use Rattle.std.proofs.Math.Pow.{pow_pos}
use Rattle.std.proofs.lemmas.Bool.Decides.{nat_tests}
use Rattle.life_base.proofs.Basics.{in_span, out_of_span, right_of_and, left_of_and}
use Rattle.life_base.specs.declared.rule.Rule.{Rule as LayerRule}
use Rattle.life_mc.specs.Macrocell.{AreSquares, IsSquare, is_level, is_quarter, level_of as line_level, largest_state as layer_largest}
use Rattle.life_mc.specs.Cells.{cell_in_node, leaf_cell, cell_of, cell_from, root_level as layer_root_level}
use Rattle.life_mc.specs.Reading.{byte_of_row, columns}
use Rattle.life_mc.specs.declared.line.Line.{Line}
use Rattle.life_mc.specs.declared.line.Line.TheVariants.{Leaf, Quad}
use Rattle.life_mc.proofs.TestFacts.{all_four}
use Rattle.claims.specs.Macrocell.{Node, leaf, quad, claimed_level_of, leaf_state, claimed_quarter_at, claimed_state_in, claimed_root_level, claimed_macrocell_cell}
use Rattle.claims.proofs.Bits.{all_over, all_over_at, bit}
use Rattle.claims.proofs.NodeLaw.{line_in, level_is}

-- ---- a leaf

abbrev row_of : (ℕ → Bool) → ℕ
row_of f = sum_by (λ c. cond (f c) (2 ^ (7 - c)) 0) columns

abbrev column_test : List Bool → ℕ → Bool
column_test bits x = (row_of (bit bits) / 2 ^ (7 - x) % 2) == cond (bit bits x) 1 0

columns_pass : all_over 8 (λ bits. list_all (column_test bits) columns) ≡ true
columns_pass = refl

abbrev bits_in : List ℕ → List Bool
bits_in row = map (λ c. slice_index row c == 42) columns

pub all_at : (p : ℕ → Bool) (xs : List ℕ) (i : ℕ) → list_all p xs ≡ true → i < length xs → p (slice_index xs i) ≡ true
all_at p [] i h l = absurd (omega arith)
all_at p (x ∷ xs) zero h l = left_of_and _ _ h
all_at p (x ∷ xs) (suc i) h l = all_at p xs i (right_of_and (p x) _ h) (omega arith)

column_at : (x : ℕ) → x < 8 → slice_index columns x ≡ x
column_at zero l = refl
column_at (suc zero) l = refl
column_at (suc (suc zero)) l = refl
column_at (suc (suc (suc zero))) l = refl
column_at (suc (suc (suc (suc zero)))) l = refl
column_at (suc (suc (suc (suc (suc zero))))) l = refl
column_at (suc (suc (suc (suc (suc (suc zero)))))) l = refl
column_at (suc (suc (suc (suc (suc (suc (suc zero))))))) l = refl
column_at (suc (suc (suc (suc (suc (suc (suc (suc x)))))))) l = absurd (omega arith)

all_eight : (p : ℕ → Bool) → list_all p columns ≡ true → (x : ℕ) → x < 8 → p x ≡ true
all_eight p h x l = ap p (sym (column_at x l)) ∙ all_at p columns x h l

zeros : (n m y : ℕ) → slice_index (take n (replicate m 0)) y ≡ 0
zeros zero m y = refl
zeros (suc n) zero y = refl
zeros (suc n) (suc m) zero = refl
zeros (suc n) (suc m) (suc y) = zeros n m y

byte_at : (n m y : ℕ) (rows : List (List ℕ)) → y < n → slice_index (take n (map byte_of_row rows ++ replicate m 0)) y ≡ byte_of_row (slice_index_or rows y [])
byte_at zero m y rows h = absurd (omega arith)
byte_at (suc n) m zero (row ∷ rows) h = refl
byte_at (suc n) m (suc y) (row ∷ rows) h = byte_at n m y rows (omega arith)
byte_at (suc n) m y [] h = zeros (suc n) m y

at_eight : (bits : List Bool) (x : ℕ) → length bits ≡ 8 → x < 8 → row_of (bit bits) / 2 ^ (7 - x) % 2 ≡ cond (bit bits x) 1 0
at_eight bits x e h =
    eqb-true _ _ (all_eight (column_test bits)
    (all_over_at bits (λ b. list_all (column_test b) columns)
    (subst (λ n. all_over n (λ b. list_all (column_test b) columns) ≡ true) (sym e) columns_pass)) x h)

bit_in : (row : List ℕ) (x : ℕ) → x < 8 → bit (bits_in row) x ≡ slice_index row x == 42
bit_in row zero h = refl
bit_in row (suc zero) h = refl
bit_in row (suc (suc zero)) h = refl
bit_in row (suc (suc (suc zero))) h = refl
bit_in row (suc (suc (suc (suc zero)))) h = refl
bit_in row (suc (suc (suc (suc (suc zero))))) h = refl
bit_in row (suc (suc (suc (suc (suc (suc zero)))))) h = refl
bit_in row (suc (suc (suc (suc (suc (suc (suc zero))))))) h = refl
bit_in row (suc (suc (suc (suc (suc (suc (suc (suc x)))))))) h = absurd (omega arith)

row_is : (row : List ℕ) (x : ℕ) → x < 8 → byte_of_row row / 2 ^ (7 - x) % 2 ≡ cond (slice_index row x == 42) 1 0
row_is row x h = at_eight (bits_in row) x refl h ∙ ap (λ v. cond v 1 0) (bit_in row x h)

leaf_is : (rows : List (List ℕ)) (x y : ℕ) → x < 8 → y < 8 → leaf_state rows x y ≡ leaf_cell (take 8 (map byte_of_row rows ++ replicate 8 0)) x y
leaf_is rows x y h l = sym (ap (λ n. n / 2 ^ (7 - x) % 2) (byte_at 8 8 y rows l) ∙ row_is (slice_index_or rows y []) x h)

-- ---- the square of a number

-- what has a number is of this level
abbrev Names : List Node → ℕ → ℕ → Type 0
Names nodes zero number = Unit {0}
Names nodes (suc k) zero = Unit {0}
Names nodes (suc k) (suc i) = (node : Node) × (slice_get nodes i ≡ Some node) × (claimed_level_of node ≡ suc k)

in_lines : (nodes : List Node) (i : ℕ) (node : Node) → slice_get nodes i ≡ Some node → slice_get (map line_in nodes) i ≡ Some (line_in node)
in_lines [] i node h = cc
in_lines (first ∷ nodes) zero node h = some_line first node h
  where
    some_line : (a b : Node) → Some a ≡ Some b → Some (line_in a) ≡ Some (line_in b)
    some_line a b e = ap (λ (o : Option Node). elim o [ None ↦ None | Some n ↦ Some (line_in n) ]) e
in_lines (first ∷ nodes) (suc i) node h = in_lines nodes i node h

named : (nodes : List Node) (m i level : ℕ) → is_level level (slice_get (map line_level (take m (map line_in nodes))) i) ≡ true
    → (node : Node) × (slice_get nodes i ≡ Some node) × (claimed_level_of node ≡ level)
named nodes zero i level h = cc
named [] (suc m) i level h = cc
named (node ∷ nodes) (suc m) zero level h = (node, refl, sym (level_is node) ∙ eqb-true (line_level (line_in node)) level h)
named (node ∷ nodes) (suc m) (suc i) level h = named nodes m i level h

quarter_names : (rule : LayerRule) (nodes : List Node) (m k number : ℕ) → is_quarter rule (map line_level (take m (map line_in nodes))) (suc k) number ≡ true
    → Names nodes k number
quarter_names rule nodes m zero number h = tt
quarter_names rule nodes m (suc k) zero h = tt
quarter_names rule nodes m (suc k) (suc i) h =
    let levels = map line_level (take m (map line_in nodes)) in
    let f : is_level (suc (suc k) - 1) (slice_get levels i) ≡ true =
    by (suc (suc k) == 1) (suc i == 0) (nat_le (suc i) (layer_largest rule)) (is_level (suc (suc k) - 1) (slice_get levels i)) (not_one k) (not_zero i) h in
    named nodes m i (suc k) (ap (λ n. is_level n (slice_get levels i)) (less k) ∙ f)
  where
    by : (v w a b : Bool) → v ≡ false → w ≡ false → cond v a (w || b) ≡ true → b ≡ true
    by v w a b p q h = rw (p, q) at h

    not_one : (k : ℕ) → (suc (suc k) == 1) ≡ false
    not_one k = grind (arith, nat_tests)

    not_zero : (i : ℕ) → (suc i == 0) ≡ false
    not_zero i = grind (arith, nat_tests)

    less : (k : ℕ) → suc k ≡ suc (suc k) - 1
    less k = omega arith

chosen : (P : ℕ → Type 0) (v w : Bool) (a b c d : ℕ) → P a → P b → P c → P d → P (cond v (cond w a b) (cond w c d))
chosen P true true a b c d p q r s = p
chosen P true false a b c d p q r s = q
chosen P false true a b c d p q r s = r
chosen P false false a b c d p q r s = s

module _ (rule : LayerRule) (nodes : List Node) (valid : AreSquares 62 rule (map line_in nodes)) where
  abbrev lines : List Line
  lines = map line_in nodes

  at_node : (k i : ℕ) (node : Node) (x y : ℕ) → x < 2 ^ suc k → y < 2 ^ suc k → claimed_level_of node ≡ suc k → slice_get nodes i ≡ Some node
      → ((number u v : ℕ) → Names nodes k number → u < 2 ^ k → v < 2 ^ k → claimed_state_in nodes k number u v ≡ cell_in_node lines k number u v)
      → claimed_state_in nodes (suc k) (suc i) x y ≡ cell_in_node lines (suc k) (suc i) x y
  at_node k i (leaf rows) x y h l e g same =
      let two : 2 ≡ k = omega (arith, e) in
      rw (g, claimed_state_in, in_lines nodes i (leaf rows) g, cell_in_node)
      (leaf_is rows x y (subst (λ n. x < 2 ^ suc n) (sym two) h) (subst (λ n. y < 2 ^ suc n) (sym two) l))
  at_node k i (quad level a b c d) x y h l e g same =
      let levels = map line_level (take i lines) in
      let is = valid i (Quad level a b c d) (in_lines nodes i (quad level a b c d) g) in
      let q = all_four _ _ _ _ (ap (λ n. list_all (is_quarter rule levels n) (a ∷ b ∷ c ∷ d ∷ [])) (sym e) ∙ is.2) in
      let P : ℕ → Type 0 = Names nodes k in
      let quarter : P (claimed_quarter_at (2 ^ k) x y a b c d) =
      chosen P (nat_lt y (2 ^ k)) (nat_lt x (2 ^ k)) a b c d (quarter_names rule nodes i k a q.0) (quarter_names rule nodes i k b q.1)
      (quarter_names rule nodes i k c q.2) (quarter_names rule nodes i k d q.3) in
      rw (g, claimed_state_in, in_lines nodes i (quad level a b c d) g, cell_in_node)
      (same (claimed_quarter_at (2 ^ k) x y a b c d) (x % 2 ^ k) (y % 2 ^ k) quarter (mod-lt x (pow_pos k)) (mod-lt y (pow_pos k)))

  same_state : (k number x y : ℕ) → Names nodes k number → x < 2 ^ k → y < 2 ^ k → claimed_state_in nodes k number x y ≡ cell_in_node lines k number x y
  same_state zero number x y n h l = refl
  same_state (suc k) zero x y n h l = refl
  same_state (suc k) (suc i) x y n h l = at_node k i n.0 x y h l n.2 n.1 (λ number u v. same_state k number u v)

-- ---- the plane

root_is : (nodes : List Node) → claimed_root_level nodes ≡ layer_root_level (map line_in nodes)
root_is [] = refl
root_is (node ∷ []) = sym (level_is node)
root_is (node ∷ next ∷ nodes) = root_is (next ∷ nodes)

root_at : (node : Node) (nodes : List Node)
    → (found : Node) × (slice_get (node ∷ nodes) (length nodes) ≡ Some found) × (claimed_level_of found ≡ claimed_root_level (node ∷ nodes))
root_at node [] = (node, refl, refl)
root_at node (next ∷ nodes) = let r = root_at next nodes in (r.0, r.1, r.2)

length_is : (nodes : List Node) → length (map line_in nodes) ≡ length nodes
length_is [] = refl
length_is (node ∷ nodes) = ap suc (length_is nodes)

pairs : (a b c d p q : Bool) → (a && b) ≡ p → (c && d) ≡ q → (a && b && c && d) ≡ (p && q)
pairs true true c d p q e f = f ∙ ap (λ v. v && q) e
pairs true false c d p q e f = ap (λ v. v && q) e
pairs false b c d p q e f = ap (λ v. v && q) e

-- a square has level 1 or more
some_level : (rule : LayerRule) (levels : List ℕ) (line : Line) → IsSquare 62 rule levels line → 1 ≤ line_level line
some_level rule levels (Leaf rows) h = omega arith
some_level rule levels (Quad level a b c d) h = h.0

module _ (rule : LayerRule) (node : Node) (nodes : List Node) (valid : AreSquares 62 rule (map line_in (node ∷ nodes))) (x y : ℤ) where
  abbrev all : List Node
  all = node ∷ nodes

  abbrev level : ℕ
  level = claimed_root_level all

  abbrev half : ℕ
  half = 2 ^ (level - 1)

  -- the root has a level of 1 or more
  some : 1 ≤ level
  some =
      let r = root_at node nodes in
      let e : line_level (line_in r.0) ≡ level = level_is r.0 ∙ r.2 in
      let h : 1 ≤ line_level (line_in r.0) = some_level rule (map line_level (take (length nodes) (map line_in all))) (line_in r.0)
      (valid (length nodes) (line_in r.0) (in_lines all (length nodes) r.0 r.1)) in
      omega (arith, e, h)

  twice : 2 ^ level ≡ half + half
  twice = double level some
    where
      double : (n : ℕ) → 1 ≤ n → 2 ^ n ≡ 2 ^ (n - 1) + 2 ^ (n - 1)
      double zero h = absurd (omega arith)
      double (suc k) h = let e : k ≡ suc k - 1 = omega arith in two-pow-succ k ∙ ap (λ m. 2 ^ m + 2 ^ m) e

  root_names : (n : ℕ) → level ≡ n → Names all n (length all)
  root_names zero e = tt
  root_names (suc k) e = let r = root_at node nodes in (r.0, r.1, r.2 ∙ e)

  abbrev within : ℤ → Bool
  within z = int_le (neg_ℤ (pos half)) z && int_lt z (pos half)

  same_in : (c d : ℕ) (v w : Bool) → nat_lt c (2 ^ level) ≡ v → nat_lt d (2 ^ level) ≡ w
      → cond (v && w) (claimed_state_in all level (length all) c d) 0 ≡ cond (v && w) (cell_in_node (map line_in all) level (length all) c d) 0
  same_in c d true true e f = same_state rule all valid level (length all) c d (root_names level refl) (ltb-true c (2 ^ level) e) (ltb-true d (2 ^ level) f)
  same_in c d true false e f = refl
  same_in c d false w e f = refl

  by_sums : (sx sy : ℤ) → x +ℤ pos half ≡ sx → y +ℤ pos half ≡ sy
      → cond (within x && within y) (claimed_state_in all level (length all) (unsigned_abs sx) (unsigned_abs sy)) 0 ≡ cell_from (map line_in all) level sx sy
  by_sums (pos c) (pos d) e f =
      ap (λ v. cond (v && within y) (claimed_state_in all level (length all) c d) 0) (in_span x half c e ∙ ap (nat_lt c) (sym twice))
      ∙ ap (λ v. cond (nat_lt c (2 ^ level) && v) (claimed_state_in all level (length all) c d) 0) (in_span y half d f ∙ ap (nat_lt d) (sym twice))
      ∙ same_in c d (nat_lt c (2 ^ level)) (nat_lt d (2 ^ level)) refl refl
      ∙ ap (λ n. cond (nat_lt c (2 ^ level) && nat_lt d (2 ^ level)) (cell_in_node (map line_in all) level n c d) 0) (sym (length_is all))
  by_sums (pos c) (negsuc d) e f = ap (λ v. cond (within x && v) (claimed_state_in all level (length all) c (unsigned_abs (negsuc d))) 0)
      (out_of_span y half d f)
      ∙ none (within x)
    where
      none : (v : Bool) → cond (v && false) (claimed_state_in all level (length all) c (unsigned_abs (negsuc d))) 0 ≡ 0
      none true = refl
      none false = refl
  by_sums (negsuc c) sy e f = ap (λ v. cond (v && within y) (claimed_state_in all level (length all) (unsigned_abs (negsuc c)) (unsigned_abs sy)) 0)
      (out_of_span x half c e)

  pub plane_at : claimed_macrocell_cell (node ∷ nodes) x y ≡ cell_of (map line_in (node ∷ nodes)) x y
  plane_at =
      ap (λ v. cond v (claimed_state_in all level (length all) (unsigned_abs (x +ℤ pos half)) (unsigned_abs (y +ℤ pos half))) 0)
      (pairs (int_le (neg_ℤ (pos half)) x) (int_lt x (pos half)) (int_le (neg_ℤ (pos half)) y) (int_lt y (pos half)) _ _ refl refl)
      ∙ by_sums (x +ℤ pos half) (y +ℤ pos half) refl refl
      ∙ ap (λ n. cell_from (map line_in all) n (x +ℤ pos (2 ^ (n - 1))) (y +ℤ pos (2 ^ (n - 1)))) (root_is all)

-- the state of each cell is that of the layer
pub plane_is : (rule : LayerRule) (nodes : List Node) → AreSquares 62 rule (map line_in nodes) → (x y : ℤ) → claimed_macrocell_cell nodes x y
    ≡ cell_of (map line_in nodes) x y
plane_is rule [] valid x y = refl
plane_is rule (node ∷ nodes) valid x y = plane_at rule node nodes valid x y
