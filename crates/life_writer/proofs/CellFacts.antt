-- The list of the cells of a pattern: it can be written, and says the pattern.
use Rattle.std.proofs.Common.{◌≡◌, ◌≢◌, ℕ, zero, suc, ◌+◌, ◌-◌, ◌^◌, ◌≤◌, true, false, ◌&&◌, List, [], ◌∷◌, refl, ap, sym, ◌∙◌, subst, arith, ◌⊎◌, inl, inr, ℤ, pos, neg_ℤ, ◌+ℤ◌, ◌≤ℤ◌, ◌<ℤ◌, Contains, int_lt, int_le, nat_lt}
use Rattle.std.specs.List.{AllPairs}
use Rattle.std.specs.Ordering.{int_eq}
use Rattle.std.proofs.lemmas.Int.{ints}
use Rattle.std.proofs.lemmas.Bool.Decides.{nat_tests}
use Rattle.life_base.specs.declared.cell.Cell.{Cell}
use Rattle.life_base.specs.declared.rule.Rule.{Rule}
use Rattle.life_base.specs.declared.rule.Rule.TheVariants.{Life, Named}
use Rattle.life_base.specs.Tree.{Tree, tree_cell}
use Rattle.life_mc.specs.Macrocell.{largest_state}
use Rattle.life_quad.specs.Cells.{IsBefore, IsCellList}
use Rattle.life_rle.specs.Plane.{is_coordinate}
use Rattle.life_rle.specs.Sorted.{is_live_cell, rises, are_sorted_cells, state_in_cells}
use Rattle.life_rle.specs.States.{is_state_of}
use Rattle.life_writer.specs.Texts.{AreCellsOf}
use Rattle.life_pattern.specs.Universe.{Universe, corner, IsWithin, IsBlankOutside, IsOnPlane}
use Rattle.life_pattern.proofs.TreeWords.{is_within}
use Rattle.life_pattern.proofs.Trees.{and_both, bool_cases, is_within-true, is_within-is}
use Rattle.life_base.proofs.Basics.{right_of_and, left_of_and, double, true_false}

-- the list of a square's cells is that of a function with the same cells
pub cells-of : (f : ℤ → ℤ → ℕ) (t : Tree) (cells : List Cell) → ((x y : ℤ) → f x y ≡ tree_cell t x y) → IsCellList t cells → AreCellsOf f cells
cells-of f t cells same h = record {
  in_order = h.in_order;
  true_cells = λ c k. let r = h.true_cells c k in (same c.x c.y ∙ r.0, r.1);
  all_cells = λ c e n. h.all_cells c (sym (same c.x c.y) ∙ e) n;
}

-- ---- the list is sorted

rises-is : (a b : Cell) → IsBefore a b → rises a b ≡ true
rises-is a b (inl h) = grind (arith, ints)
rises-is a b (inr h) = let e = h.0 in let l = h.1 in grind (arith, ints)

pub sorted : (top : ℕ) (rule : Rule) (cells : List Cell) → AllPairs IsBefore cells → ((c : Cell) → Contains cells c → is_live_cell top rule c ≡ true)
    → are_sorted_cells top rule cells ≡ true
sorted top rule [] order live = refl
sorted top rule (c ∷ []) order live = live c (0, omega arith, refl)
sorted top rule (c ∷ d ∷ cells) order live =
    and_both _ _ (and_both _ _ (live c (0, omega arith, refl)) (rises-is c d (order 0 1 c (omega arith) (omega arith))))
    (sorted top rule (d ∷ cells) (λ i j e before below. order (suc i) (suc j) e (omega arith) (omega arith)) (λ b h. live b (behind b h)))
  where
    behind : (b : Cell) → Contains (d ∷ cells) b → Contains (c ∷ d ∷ cells) b
    behind b (k, lt, e) = (suc k, omega arith, e)

-- a cell with a state lies on the plane
pub inside : (f : ℤ → ℤ → ℕ) (k : ℕ) (x y : ℤ) → IsBlankOutside k f → f x y ≢ 0 → IsWithin k x × IsWithin k y
inside f k x y out some = by (bool_cases (is_within k x)) (bool_cases (is_within k y))
  where
    by : (is_within k x ≡ true) ⊎ (is_within k x ≡ false) → (is_within k y ≡ true) ⊎ (is_within k y ≡ false) → IsWithin k x × IsWithin k y
    by (inl a) (inl b) = (is_within-true k x a, is_within-true k y b)
    by (inl a) (inr b) = absurd (some (out x y (λ h. true_false _ (is_within-is k y h.1) b)))
    by (inr a) q = absurd (some (out x y (λ h. true_false _ (is_within-is k x h.0) a)))

coordinate-of : (n : ℕ) (x : ℤ) → neg_ℤ (pos n) ≤ℤ x → x <ℤ (neg_ℤ (pos n) +ℤ pos (n + n)) → (int_le (neg_ℤ (pos n)) x && int_lt x (pos n)) ≡ true
coordinate-of n x low high = grind (arith, ints)

coordinate : (top : ℕ) (x : ℤ) → IsWithin (suc top) x → is_coordinate (suc top) x ≡ true
unfolding corner
coordinate top x h =
    let one : suc top - 1 ≡ top = omega arith in
    rw one (coordinate-of (2 ^ top) x h.0 (subst (λ n. x <ℤ (neg_ℤ (pos (2 ^ top)) +ℤ pos n)) (double top) h.1))

state-of : (rule : Rule) (state : ℕ) → state ≢ 0 → state ≤ largest_state rule → (nat_lt 0 state && is_state_of rule state) ≡ true
state-of (Life sets) state some h = grind (arith, nat_tests)
state-of (Named name) state some h = grind (arith, nat_tests)

pub sorted-cells : (top : ℕ) (u : Universe) (cells : List Cell) → IsOnPlane (suc top) u → AreCellsOf u.cell cells → are_sorted_cells (suc top) u.rule cells
    ≡ true
sorted-cells top u cells h are = sorted (suc top) u.rule cells are.in_order live
  where
    live : (c : Cell) → Contains cells c → is_live_cell (suc top) u.rule c ≡ true
    live c k =
        let r = are.true_cells c k in
        let i = inside u.cell (suc top) c.x c.y h.outside (λ e. r.1 (sym r.0 ∙ e)) in
        and_both _ _ (and_both _ _ (coordinate top c.x i.0) (coordinate top c.y i.1))
        (state-of u.rule c.state r.1 (subst (λ n. n ≤ largest_state u.rule) r.0 (h.states c.x c.y)))

-- ---- the list says the pattern

-- what the list gives a pair: its cell there, or 0 where it has none
pair-cases : (f : ℤ → ℤ → ℕ) (cells : List Cell) → ((c : Cell) → Contains cells c → f c.x c.y ≡ c.state) → (x y : ℤ)
    → (state_in_cells cells x y ≡ f x y) ⊎ ((state_in_cells cells x y ≡ 0) × ((c : Cell) → Contains cells c → c.x ≡ x → c.y ≡ y → ⊥))
pair-cases f [] true_cells x y = inr (refl, λ c (k, lt, e) p q. absurd (omega arith))
pair-cases f (c ∷ cells) true_cells x y = by (bool_cases (int_eq y c.y && int_eq x c.x)) (pair-cases f cells (λ d h. true_cells d (behind d h)) x y)
  where
    behind : (b : Cell) → Contains cells b → Contains (c ∷ cells) b
    behind b (k, lt, e) = (suc k, omega arith, e)

    at : (int_eq y c.y && int_eq x c.x) ≡ true → (y ≡ c.y) × (x ≡ c.x)
    at h = (same y c.y (left_of_and (int_eq y c.y) (int_eq x c.x) h), same x c.x (right_of_and (int_eq y c.y) (int_eq x c.x) h))
      where
        same : (m n : ℤ) → int_eq m n ≡ true → m ≡ n
        same m n e = grind (arith, ints)

    off : (d : Cell) → (int_eq y c.y && int_eq x c.x) ≡ false → c ≡ d → d.x ≡ x → d.y ≡ y → ⊥
    off d h e p q =
        let a : c.x ≡ x = ap (λ b. b.x) e ∙ p in
        let b : c.y ≡ y = ap (λ b. b.y) e ∙ q in
        true_false _ (and_both _ _ (equal y c.y (sym b)) (equal x c.x (sym a))) h
      where
        equal : (m n : ℤ) → m ≡ n → int_eq m n ≡ true
        equal m n e = grind (arith, ints)

    by : ((int_eq y c.y && int_eq x c.x) ≡ true) ⊎ ((int_eq y c.y && int_eq x c.x) ≡ false)
        → (state_in_cells cells x y ≡ f x y) ⊎ ((state_in_cells cells x y ≡ 0) × ((d : Cell) → Contains cells d → d.x ≡ x → d.y ≡ y → ⊥))
        → (state_in_cells (c ∷ cells) x y ≡ f x y) ⊎ ((state_in_cells (c ∷ cells) x y ≡ 0) × ((d : Cell) → Contains (c ∷ cells) d → d.x ≡ x → d.y ≡ y → ⊥))
    by (inl h) r = let e = at h in inl (rw h (sym (true_cells c (0, omega arith, refl)) ∙ ap (λ z. f z c.y) (sym e.1) ∙ ap (f x) (sym e.0)))
    by (inr h) (inl r) = inl (rw h r)
    by (inr h) (inr r) = inr (rw h r.0, λ d k p q. none d k p q)
      where
        none : (d : Cell) → Contains (c ∷ cells) d → d.x ≡ x → d.y ≡ y → ⊥
        none d (zero, lt, e) p q = off d h e p q
        none d (suc k, lt, e) p q = r.1 d (k, omega arith, e) p q

pub listed-cells : (f : ℤ → ℤ → ℕ) (cells : List Cell) → AreCellsOf f cells → (x y : ℤ) → f x y ≡ state_in_cells cells x y
listed-cells f cells are x y = by (pair-cases f cells (λ c h. (are.true_cells c h).0) x y)
  where
    zero_or : (n : ℕ) → (n ≡ 0) ⊎ (n ≢ 0)
    zero_or zero = inl refl
    zero_or (suc n) = inr (λ e. omega arith)

    by : (state_in_cells cells x y ≡ f x y) ⊎ ((state_in_cells cells x y ≡ 0) × ((c : Cell) → Contains cells c → c.x ≡ x → c.y ≡ y → ⊥)) → f x y
        ≡ state_in_cells cells x y
    by (inl e) = sym e
    by (inr r) = elim (zero_or (f x y)) [
      | inl z ↦ z ∙ sym r.0
      | inr n ↦ let c : Cell = record { x = x; y = y; state = f x y } in absurd (r.1 c (are.all_cells c refl n) refl refl)
    ]
