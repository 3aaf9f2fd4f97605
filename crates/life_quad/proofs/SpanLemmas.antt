-- Facts about spans of cells.
use Rattle.std.proofs.Common.{◌≡◌, ℕ, suc, ◌+◌, ◌-◌, ◌^◌, ◌≤◌, ◌<◌, Bool, true, false, ◌&&◌, ◌==◌, nat_lt, nat_le, refl, sym, ◌∙◌, ap, subst, arith, if◌then◌else◌}
use Rattle.life_base.specs.Tree.{Tree, quad, depth, state_at, IsFull}
use Rattle.life_base.proofs.Squares.{at_nw, at_ne, at_sw, at_se}
use Rattle.life_base.proofs.Basics.{double}
use Rattle.life_quad.specs.declared.runs.RowSpan.{RowSpan}
use Rattle.life_quad.specs.Span.{is_in_span, SetsSpan, SetsHalves}

-- whether a column and a row are in a span
abbrev pub is_within : RowSpan → ℕ → ℕ → Bool
is_within span i j = is_in_span span.column span.row span.len i j

-- a cell of another row is in no span
pub other_row : (span : RowSpan) (i j : ℕ) → (j == span.row) ≡ false → is_within span i j ≡ false
other_row span i j h = grind (arith, h)

-- a span in the two northern quarters
pub SetsSpan-north : (a b c d a' b' : Tree) (span : RowSpan) → IsFull (quad a b c d) → span.row < 2 ^ depth a
    → SetsHalves a b a' b' span → SetsSpan (quad a b c d) (quad a' b' c d) span
SetsSpan-north a b c d a' b' span full low h =
    record {
      full = (h.left_full, h.right_full, full.2, full.3, h.right_level ∙ full.4 ∙ sym h.left_level, full.5 ∙ sym h.left_level, full.6 ∙ sym h.left_level);
      level = ap suc h.left_level;
      cells = λ i j li lj. by i j li lj (nat_lt j (2 ^ depth a)) refl (nat_lt i (2 ^ depth a)) refl;
    }
  where
    half : ℕ
    half = 2 ^ depth a

    new_half : 2 ^ depth a' ≡ 2 ^ depth a
    new_half = ap (λ n. 2 ^ n) h.left_level

    by : (i j : ℕ) → i < 2 ^ suc (depth a) → j < 2 ^ suc (depth a) → (p : Bool) → nat_lt j (2 ^ depth a) ≡ p → (q : Bool) → nat_lt i (2 ^ depth a) ≡ q
        → state_at (quad a' b' c d) i j ≡ (if is_within span i j then span.state else state_at (quad a b c d) i j)
    by i j li lj true g true f =
        at_nw a' b' c d i j (ap (nat_lt j) new_half ∙ g) (ap (nat_lt i) new_half ∙ f) ∙ h.left_cells i j (grind arith) (grind arith)
        ∙ ap (λ s. if is_within span i j then span.state else s) (sym (at_nw a b c d i j g f))
    by i j li lj true g false f =
        let below : i - 2 ^ depth a < 2 ^ depth a = let e = double (depth a) in grind arith in
        let back : 2 ^ depth a + (i - 2 ^ depth a) ≡ i = grind arith in
        at_ne a' b' c d i j (ap (nat_lt j) new_half ∙ g) (ap (nat_lt i) new_half ∙ f) ∙ ap (λ n. state_at b' (i - n) j) new_half
        ∙ h.right_cells (i - 2 ^ depth a) j below (grind arith)
        ∙ ap (λ n. if is_within span n j then span.state else state_at b (i - 2 ^ depth a) j) back
        ∙ ap (λ s. if is_within span i j then span.state else s) (sym (at_ne a b c d i j g f))
    by i j li lj false g true f =
        let other = other_row span i j (grind arith) in
        at_sw a' b' c d i j (ap (nat_lt j) new_half ∙ g) (ap (nat_lt i) new_half ∙ f) ∙ ap (λ n. state_at c i (j - n)) new_half
        ∙ sym (at_sw a b c d i j g f) ∙ sym (ap (λ t. if t then span.state else state_at (quad a b c d) i j) other)
    by i j li lj false g false f =
        let other = other_row span i j (grind arith) in
        at_se a' b' c d i j (ap (nat_lt j) new_half ∙ g) (ap (nat_lt i) new_half ∙ f) ∙ ap (λ n. state_at d (i - n) (j - n)) new_half
        ∙ sym (at_se a b c d i j g f) ∙ sym (ap (λ t. if t then span.state else state_at (quad a b c d) i j) other)

-- the rows of the southern quarters begin at half of the side
pub shifted_row : (span : RowSpan) (half i j : ℕ) → half ≤ span.row → half ≤ j
    → is_within (record span { row = span.row - half }) i (j - half) ≡ is_within span i j
shifted_row span half i j r s =
    let same : (j - half == span.row - half) ≡ (j == span.row) = grind arith in
    ap (λ b. b && nat_le span.column i && nat_lt i (span.column + span.len)) same

-- a span in the two southern quarters
pub SetsSpan-south : (a b c d c' d' : Tree) (span : RowSpan) → IsFull (quad a b c d) → 2 ^ depth a ≤ span.row
    → SetsHalves c d c' d' (record span { row = span.row - 2 ^ depth a }) → SetsSpan (quad a b c d) (quad a b c' d') span
SetsSpan-south a b c d c' d' span full low h =
    record {
      full = (full.0, full.1, h.left_full, h.right_full, full.4, h.left_level ∙ full.5, h.right_level ∙ full.6);
      level = refl;
      cells = λ i j li lj. by i j li lj (nat_lt j (2 ^ depth a)) refl (nat_lt i (2 ^ depth a)) refl;
    }
  where
    side : 2 ^ depth c ≡ 2 ^ depth a
    side = ap (λ n. 2 ^ n) full.5

    by : (i j : ℕ) → i < 2 ^ suc (depth a) → j < 2 ^ suc (depth a) → (p : Bool) → nat_lt j (2 ^ depth a) ≡ p → (q : Bool) → nat_lt i (2 ^ depth a) ≡ q
        → state_at (quad a b c' d') i j ≡ (if is_within span i j then span.state else state_at (quad a b c d) i j)
    by i j li lj true g true f =
        let other = other_row span i j (grind arith) in
        at_nw a b c' d' i j g f ∙ sym (at_nw a b c d i j g f) ∙ sym (ap (λ t. if t then span.state else state_at (quad a b c d) i j) other)
    by i j li lj true g false f =
        let other = other_row span i j (grind arith) in
        at_ne a b c' d' i j g f ∙ sym (at_ne a b c d i j g f) ∙ sym (ap (λ t. if t then span.state else state_at (quad a b c d) i j) other)
    by i j li lj false g true f =
        let e = double (depth a) in
        let jj : j - 2 ^ depth a < 2 ^ depth c = grind arith in
        let ii : i < 2 ^ depth c = grind arith in
        let jl : 2 ^ depth a ≤ j = grind arith in
        at_sw a b c' d' i j g f ∙ h.left_cells i (j - 2 ^ depth a) ii jj
        ∙ ap (λ t. if t then span.state else state_at c i (j - 2 ^ depth a)) (shifted_row span (2 ^ depth a) i j low jl)
        ∙ ap (λ s. if is_within span i j then span.state else s) (sym (at_sw a b c d i j g f))
    by i j li lj false g false f =
        let e = double (depth a) in
        let jj : j - 2 ^ depth a < 2 ^ depth c = grind arith in
        let ii : i - 2 ^ depth a < 2 ^ depth c = grind arith in
        let jl : 2 ^ depth a ≤ j = grind arith in
        let back : 2 ^ depth c + (i - 2 ^ depth a) ≡ i = grind arith in
        at_se a b c' d' i j g f ∙ h.right_cells (i - 2 ^ depth a) (j - 2 ^ depth a) ii jj
        ∙ ap (λ n. if is_within (record span { row = span.row - 2 ^ depth a }) n (j - 2 ^ depth a) then span.state
        else state_at d (i - 2 ^ depth a) (j - 2 ^ depth a)) back
        ∙ ap (λ t. if t then span.state else state_at d (i - 2 ^ depth a) (j - 2 ^ depth a)) (shifted_row span (2 ^ depth a) i j low jl)
        ∙ ap (λ s. if is_within span i j then span.state else s) (sym (at_se a b c d i j g f))

-- half of the side of a square is the side of its quarters
pub half_of : (level whole part : ℕ) → level ≡ whole → part + 1 ≡ whole → 2 ^ (level - 1) ≡ 2 ^ part
half_of level whole part e f = let same : level - 1 ≡ part = omega arith in ap (λ n. 2 ^ n) same

-- the same spans in a square that has these quarters, by half of its side, where the other two quarters have new names
module _ (t a b c d : Tree) (level half : ℕ) (span : RowSpan) (full : IsFull t) (is : t ≡ quad a b c d) (top : level ≡ depth t)
    (one : depth a + 1 ≡ depth t) (side : half ≡ 2 ^ (level - 1)) where
  half_is : half ≡ 2 ^ depth a
  half_is = side ∙ half_of level (depth t) (depth a) top one

  pub in_north : (a' b' c' d' : Tree) → span.row < half → SetsHalves a b a' b' span → c' ≡ c → d' ≡ d
      → SetsSpan t (quad a' b' c' d') span
  in_north a' b' c' d' low h e f =
      subst (λ s. SetsSpan s (quad a' b' c' d') span) (sym is)
      (subst (λ s. SetsSpan (quad a b c d) s span) (λ i. quad a' b' (sym e i) (sym f i))
      (SetsSpan-north a b c d a' b' span (subst IsFull is full) (subst (λ n. span.row < n) half_is low) h))

  pub in_south : (a' b' c' d' : Tree) → half ≤ span.row → SetsHalves c d c' d' (record span { row = span.row - half }) → a' ≡ a → b' ≡ b
      → SetsSpan t (quad a' b' c' d') span
  in_south a' b' c' d' low h e f =
      subst (λ s. SetsSpan s (quad a' b' c' d') span) (sym is)
      (subst (λ s. SetsSpan (quad a b c d) s span) (λ i. quad (sym e i) (sym f i) c' d')
      (SetsSpan-south a b c d c' d' span (subst IsFull is full) (subst (λ n. n ≤ span.row) half_is low)
      (subst (λ n. SetsHalves c d c' d' (record span { row = span.row - n })) half_is h)))
