-- Facts about how far from the sides of a square its nonzero cells lie.
use Rattle.std.proofs.Common.{◌≡◌, ◌==◌, ℕ, suc, ◌+◌, ◌-◌, ◌^◌, ◌<◌, ◌≤◌, min, Bool, true, false, ◌⊎◌, inl, inr, Option, Some, None, refl, sym, ◌∙◌, ap, subst, arith, true≢false, nat_le}
use Rattle.life_base.specs.Tree.{Tree, point, quad, depth, is_blank_tree, IsFull}
use Rattle.life_quad.specs.Distances.{IsNonzeroAt, distance, HasCellAt, HasCellInTwo, IsLeastNumber, IsLeastOf, Faces, lesser_of}
use Rattle.life_quad.specs.declared.distances.Side.{Side}
use Rattle.life_quad.specs.declared.distances.Side.TheVariants.{North, South, West, East}
use Rattle.life_quad.proofs.NonzeroLemmas.{InQuarter, in_nw, in_ne, in_sw, in_se, Sides, sides, quarter_of, from_quarter, others_have_one, blank_has_none}

-- no cell lies further than the side is long
pub distance_within : (side : Side) (t : Tree) (n : ℕ) → HasCellAt side t n → n < 2 ^ depth t
distance_within North t n h = let r = h.cell.row in let f = h.far in omega arith
distance_within South t n h = let r = h.cell.row in let f = h.far in omega arith
distance_within West t n h = let r = h.cell.column in let f = h.far in omega arith
distance_within East t n h = let r = h.cell.column in let f = h.far in omega arith

-- a nonzero cell, by how far it is
at_cell : {side : Side} {t : Tree} {i j n : ℕ} → IsNonzeroAt t i j → distance side (2 ^ depth t) i j ≡ n → HasCellAt side t n
at_cell {i = i} {j = j} cell far = record { column = i; row = j; cell = cell; far = far }

-- where a cell lies that is so far from the side, by the quarters a and b at the side and c and d after them
data Found (side : Side) (a b c d : Tree) (half n : ℕ) : Type 0 where
  in_a : HasCellAt side a n → Found side a b c d half n
  in_b : HasCellAt side b n → Found side a b c d half n
  in_c : (m : ℕ) → n ≡ m + half → HasCellAt side c m → Found side a b c d half n
  in_d : (m : ℕ) → n ≡ m + half → HasCellAt side d m → Found side a b c d half n

module _ (a b c d : Tree) (full : IsFull (quad a b c d)) where
  s : Sides a b c d
  s = sides a b c d full

  from : {i j : ℕ} → InQuarter a b c d (2 ^ depth a) i j → IsNonzeroAt (quad a b c d) i j
  from = from_quarter a b c d full _ _

  found_north : {n i j : ℕ} → j ≡ n → InQuarter a b c d (2 ^ depth a) i j → Found North a b c d (2 ^ depth a) n
  found_north far (in_nw q) = in_a (at_cell q far)
  found_north far (in_ne m e q) = in_b (at_cell q far)
  found_north far (in_sw k e q) = in_c k (omega (arith, far, e)) (at_cell q refl)
  found_north far (in_se m k e f q) = in_d k (omega (arith, far, f)) (at_cell q refl)

  found_west : {n i j : ℕ} → i ≡ n → InQuarter a b c d (2 ^ depth a) i j → Found West a c b d (2 ^ depth a) n
  found_west far (in_nw q) = in_a (at_cell q far)
  found_west far (in_sw k e q) = in_b (at_cell q far)
  found_west far (in_ne m e q) = in_c m (omega (arith, far, e)) (at_cell q refl)
  found_west far (in_se m k e f q) = in_d m (omega (arith, far, e)) (at_cell q refl)

  found_south : {n i j : ℕ} → 2 ^ suc (depth a) - suc j ≡ n → InQuarter a b c d (2 ^ depth a) i j → Found South c d a b (2 ^ depth c) n
  found_south far (in_sw k e q) = in_a (at_cell q (let l = q.row in omega (arith, far, e, l, s.whole, s.sw)))
  found_south far (in_se m k e f q) = in_b (at_cell q (let l = q.row in omega (arith, far, f, l, s.whole, s.se)))
  found_south far (in_nw q) = let l = q.row in in_c _ (omega (arith, far, l, s.whole, s.sw)) (at_cell q refl)
  found_south far (in_ne m e q) = let l = q.row in in_d _ (omega (arith, far, l, s.whole, s.ne, s.sw)) (at_cell q refl)

  found_east : {n i j : ℕ} → 2 ^ suc (depth a) - suc i ≡ n → InQuarter a b c d (2 ^ depth a) i j → Found East b d a c (2 ^ depth b) n
  found_east far (in_ne m e q) = in_a (at_cell q (let l = q.column in omega (arith, far, e, l, s.whole, s.ne)))
  found_east far (in_se m k e f q) = in_b (at_cell q (let l = q.column in omega (arith, far, e, l, s.whole, s.se)))
  found_east far (in_nw q) = let l = q.column in in_c _ (omega (arith, far, l, s.whole, s.ne)) (at_cell q refl)
  found_east far (in_sw k e q) = let l = q.column in in_d _ (omega (arith, far, l, s.whole, s.ne, s.sw)) (at_cell q refl)

  at_north : (n : ℕ) → Found North a b c d (2 ^ depth a) n → HasCellAt North (quad a b c d) n
  at_north n (in_a h) = at_cell (from (in_nw h.cell)) h.far
  at_north n (in_b h) = at_cell (from (in_ne h.column refl h.cell)) h.far
  at_north n (in_c m e h) = at_cell (from (in_sw h.row refl h.cell)) (omega (arith, e, h.far))
  at_north n (in_d m e h) = at_cell (from (in_se h.column h.row refl refl h.cell)) (omega (arith, e, h.far))

  at_west : (n : ℕ) → Found West a c b d (2 ^ depth a) n → HasCellAt West (quad a b c d) n
  at_west n (in_a h) = at_cell (from (in_nw h.cell)) h.far
  at_west n (in_b h) = at_cell (from (in_sw h.row refl h.cell)) h.far
  at_west n (in_c m e h) = at_cell (from (in_ne h.column refl h.cell)) (omega (arith, e, h.far))
  at_west n (in_d m e h) = at_cell (from (in_se h.column h.row refl refl h.cell)) (omega (arith, e, h.far))

  at_south : (n : ℕ) → Found South c d a b (2 ^ depth c) n → HasCellAt South (quad a b c d) n
  at_south n (in_a h) = let l = h.cell.row in at_cell (from (in_sw h.row refl h.cell)) (omega (arith, h.far, l, s.whole, s.sw))
  at_south n (in_b h) = let l = h.cell.row in at_cell (from (in_se h.column h.row refl refl h.cell)) (omega (arith, h.far, l, s.whole, s.se))
  at_south n (in_c m e h) = let l = h.cell.row in at_cell (from (in_nw h.cell)) (omega (arith, e, h.far, l, s.whole, s.sw))
  at_south n (in_d m e h) = let l = h.cell.row in at_cell (from (in_ne h.column refl h.cell)) (omega (arith, e, h.far, l, s.whole, s.ne, s.sw))

  at_east : (n : ℕ) → Found East b d a c (2 ^ depth b) n → HasCellAt East (quad a b c d) n
  at_east n (in_a h) = let l = h.cell.column in at_cell (from (in_ne h.column refl h.cell)) (omega (arith, h.far, l, s.whole, s.ne))
  at_east n (in_b h) = let l = h.cell.column in at_cell (from (in_se h.column h.row refl refl h.cell)) (omega (arith, h.far, l, s.whole, s.se))
  at_east n (in_c m e h) = let l = h.cell.column in at_cell (from (in_nw h.cell)) (omega (arith, e, h.far, l, s.whole, s.ne))
  at_east n (in_d m e h) = let l = h.cell.column in at_cell (from (in_sw h.row refl h.cell)) (omega (arith, e, h.far, l, s.whole, s.ne, s.sw))

-- a cell so far from the side of a square lies in one of its quarters, and the other way round
found : (side : Side) (t a b c d : Tree) → IsFull t → Faces side t a b c d → (n : ℕ) → HasCellAt side t n → Found side a b c d (2 ^ depth a) n
found North t a b c d full is n h = let k = subst (λ z. HasCellAt North z n) is h in found_north a b c d (subst IsFull is full) k.far
    (quarter_of a b c d (subst IsFull is full) _ _ k.cell)
found South t a b c d full is n h = let k = subst (λ z. HasCellAt South z n) is h in found_south c d a b (subst IsFull is full) k.far
    (quarter_of c d a b (subst IsFull is full) _ _ k.cell)
found West t a b c d full is n h = let k = subst (λ z. HasCellAt West z n) is h in found_west a c b d (subst IsFull is full) k.far
    (quarter_of a c b d (subst IsFull is full) _ _ k.cell)
found East t a b c d full is n h = let k = subst (λ z. HasCellAt East z n) is h in found_east c a d b (subst IsFull is full) k.far
    (quarter_of c a d b (subst IsFull is full) _ _ k.cell)

at_side : (side : Side) (t a b c d : Tree) → IsFull t → Faces side t a b c d → (n : ℕ) → Found side a b c d (2 ^ depth a) n → HasCellAt side t n
at_side North t a b c d full is n h = subst (λ z. HasCellAt North z n) (sym is) (at_north a b c d (subst IsFull is full) n h)
at_side South t a b c d full is n h = subst (λ z. HasCellAt South z n) (sym is) (at_south c d a b (subst IsFull is full) n h)
at_side West t a b c d full is n h = subst (λ z. HasCellAt West z n) (sym is) (at_west a c b d (subst IsFull is full) n h)
at_side East t a b c d full is n h = subst (λ z. HasCellAt East z n) (sym is) (at_east c a d b (subst IsFull is full) n h)

-- the lesser of two numbers is one of them
min_is : (a b : ℕ) → (min a b ≡ a) ⊎ (min a b ≡ b)
min_is a b = by (nat_le a b) refl
  where
    by : (t : Bool) → nat_le a b ≡ t → (min a b ≡ a) ⊎ (min a b ≡ b)
    by true e = inl (grind arith)
    by false e = inr (grind arith)

module _ (P Q : ℕ → Type 0) where
  abbrev Either : ℕ → Type 0
  Either n = P n ⊎ Q n

  -- the least number with either property
  pub least_of_both : (x y : Option ℕ) → IsLeastOf P x → IsLeastOf Q y → IsLeastOf Either (lesser_of x y)
  least_of_both None None hp hq = λ n e. no n e
    where
      no : (n : ℕ) → Either n → ⊥
      no n (inl p) = hp n p
      no n (inr q) = hq n q
  least_of_both None (Some b) hp hq = record { has = inr hq.has; least = least }
    where
      least : (n : ℕ) → Either n → b ≤ n
      least n (inl p) = absurd (hp n p)
      least n (inr q) = hq.least n q
  least_of_both (Some a) None hp hq = record { has = inl hp.has; least = least }
    where
      least : (n : ℕ) → Either n → a ≤ n
      least n (inl p) = hp.least n p
      least n (inr q) = absurd (hq n q)
  least_of_both (Some a) (Some b) hp hq = record { has = has (min_is a b); least = least }
    where
      has : (min a b ≡ a) ⊎ (min a b ≡ b) → Either (min a b)
      has (inl e) = inl (subst P (sym e) hp.has)
      has (inr e) = inr (subst Q (sym e) hq.has)

      least : (n : ℕ) → Either n → min a b ≤ n
      least n (inl p) = let k = hp.least n p in omega (arith, k)
      least n (inr q) = let k = hq.least n q in omega (arith, k)

module _ (side : Side) (t a b c d : Tree) (full : IsFull t) (is : Faces side t a b c d) (b_level : depth b ≡ depth a) where
  abbrev Near : ℕ → Type 0
  Near = HasCellInTwo side a b

  abbrev Behind : ℕ → Type 0
  Behind = HasCellInTwo side c d

  near_within : (n : ℕ) → Near n → n < 2 ^ depth a
  near_within n (inl h) = distance_within side a n h
  near_within n (inr h) = subst (λ k. n < 2 ^ k) b_level (distance_within side b n h)

  near_is : (n : ℕ) → Near n → HasCellAt side t n
  near_is n (inl h) = at_side side t a b c d full is n (in_a h)
  near_is n (inr h) = at_side side t a b c d full is n (in_b h)

  behind_is : (n : ℕ) → Behind n → HasCellAt side t (n + 2 ^ depth a)
  behind_is n (inl h) = at_side side t a b c d full is _ (in_c n refl h)
  behind_is n (inr h) = at_side side t a b c d full is _ (in_d n refl h)

  either : (n : ℕ) → HasCellAt side t n → Near n ⊎ ((m : ℕ) × (n ≡ m + 2 ^ depth a) × Behind m)
  either n h = by (found side t a b c d full is n h)
    where
      by : Found side a b c d (2 ^ depth a) n → Near n ⊎ ((m : ℕ) × (n ≡ m + 2 ^ depth a) × Behind m)
      by (in_a k) = inl (inl k)
      by (in_b k) = inl (inr k)
      by (in_c m e k) = inr (m, e, inl k)
      by (in_d m e k) = inr (m, e, inr k)

  -- the least distance is that of the quarters at the side, if these have cells
  pub least_near : (x : Option ℕ) (n : ℕ) → IsLeastOf Near x → x ≡ Some n → IsLeastNumber (HasCellAt side t) n
  least_near x n near e =
      let k : IsLeastOf Near (Some n) = subst (IsLeastOf Near) e near in
      record { has = near_is n k.has; least = λ m h. least k m (either m h) }
    where
      least : IsLeastNumber Near n → (m : ℕ) → Near m ⊎ ((j : ℕ) × (m ≡ j + 2 ^ depth a) × Behind j) → n ≤ m
      least k m (inl h) = k.least m h
      least k m (inr (j, f, h)) = let w = near_within n k.has in omega (arith, w, f)

  -- and else that of the quarters after them and half a side more
  pub least_behind : (x y : Option ℕ) (n : ℕ) → IsLeastOf Near x → x ≡ None → IsLeastOf Behind y → y ≡ Some n
      → IsLeastNumber (HasCellAt side t) (n + 2 ^ depth a)
  least_behind x y n near none behind e =
      let k : IsLeastOf Behind (Some n) = subst (IsLeastOf Behind) e behind in
      record { has = behind_is n k.has; least = λ m h. least k m (either m h) }
    where
      no : IsLeastOf Near None
      no = subst (IsLeastOf Near) none near

      least : IsLeastNumber Behind n → (m : ℕ) → Near m ⊎ ((j : ℕ) × (m ≡ j + 2 ^ depth a) × Behind j) → n + 2 ^ depth a ≤ m
      least k m (inl h) = absurd (no m h)
      least k m (inr (j, f, h)) = let l = k.least j h in omega (arith, l, f)

  -- no quarter has a cell
  pub least_nowhere : (x y : Option ℕ) → IsLeastOf Near x → x ≡ None → IsLeastOf Behind y → y ≡ None → IsLeastOf (HasCellAt side t) None
  least_nowhere x y near none behind e = λ n h. by n (either n h)
    where
      no : IsLeastOf Near None
      no = subst (IsLeastOf Near) none near

      not : IsLeastOf Behind None
      not = subst (IsLeastOf Behind) e behind

      by : (n : ℕ) → Near n ⊎ ((j : ℕ) × (n ≡ j + 2 ^ depth a) × Behind j) → ⊥
      by n (inl h) = no n h
      by n (inr (j, f, h)) = not j h

-- a blank square has no cell at any distance, and each other square has one
pub blank_nowhere : (side : Side) (t : Tree) → IsFull t → is_blank_tree t ≡ true → IsLeastOf (HasCellAt side t) None
blank_nowhere side t full h = λ n k. blank_has_none t full h k.column k.row k.cell

pub nowhere_blank : (side : Side) (t : Tree) → IsFull t → IsLeastOf (HasCellAt side t) None → is_blank_tree t ≡ true
nowhere_blank side t full h = by (is_blank_tree t) refl
  where
    by : (b : Bool) → is_blank_tree t ≡ b → is_blank_tree t ≡ true
    by true e = e
    by false e = let n = others_have_one t full e in absurd (h _ (record { column = n.0; row = n.1; cell = n.2; far = refl }))

-- a single cell with a state touches each side
pub least_of_cell : (side : Side) (t : Tree) → depth t ≡ 0 → is_blank_tree t ≡ false → IsLeastNumber (HasCellAt side t) 0
least_of_cell side (quad a b c d) k h = absurd (omega arith)
least_of_cell side (point s) k h = record { has = by side; least = λ n e. omega arith }
  where
    here : IsNonzeroAt (point s) 0 0
    here = record { column = omega arith; row = omega arith; state = λ e. true≢false (sym (ap (λ n. n == 0) e) ∙ h) }

    by : (side : Side) → HasCellAt side (point s) 0
    by North = record { column = 0; row = 0; cell = here; far = refl }
    by South = record { column = 0; row = 0; cell = here; far = refl }
    by West = record { column = 0; row = 0; cell = here; far = refl }
    by East = record { column = 0; row = 0; cell = here; far = refl }

-- every nonzero cell of the square is in the box, and each side of the box has one
pub record IsLeastWithin (t : Tree) (left top right bottom : ℕ) : Type 0 where
  pub inside : (i j : ℕ) → IsNonzeroAt t i j → (left ≤ i) × (i ≤ right) × (top ≤ j) × (j ≤ bottom)
  pub at_left : (j : ℕ) × IsNonzeroAt t left j
  pub at_right : (j : ℕ) × IsNonzeroAt t right j
  pub at_top : (i : ℕ) × IsNonzeroAt t i top
  pub at_bottom : (i : ℕ) × IsNonzeroAt t i bottom

-- the least box, by the least distances from the four sides
pub box_of_distances : (t : Tree) (west north east south : ℕ) → IsLeastNumber (HasCellAt West t) west → IsLeastNumber (HasCellAt North t) north
    → IsLeastNumber (HasCellAt East t) east → IsLeastNumber (HasCellAt South t) south
    → IsLeastWithin t west north (2 ^ depth t - suc east) (2 ^ depth t - suc south)
box_of_distances t west north east south w n e s =
    record {
      inside = λ i j h. (
        w.least i (record { column = i; row = j; cell = h; far = refl }),
        (let l = h.column in let k = e.least (2 ^ depth t - suc i) (record { column = i; row = j; cell = h; far = refl }) in omega (arith, l, k)),
        n.least j (record { column = i; row = j; cell = h; far = refl }),
        (let l = h.row in let k = s.least (2 ^ depth t - suc j) (record { column = i; row = j; cell = h; far = refl }) in omega (arith, l, k)),
      );
      at_left = (w.has.row, subst (λ i. IsNonzeroAt t i w.has.row) w.has.far w.has.cell);
      at_right = (
        e.has.row,
        (let l = e.has.cell.column in let f = e.has.far in let same : e.has.column ≡ 2 ^ depth t - suc east = omega (arith, l, f) in
            subst (λ i. IsNonzeroAt t i e.has.row) same e.has.cell),
      );
      at_top = (n.has.column, subst (λ j. IsNonzeroAt t n.has.column j) n.has.far n.has.cell);
      at_bottom = (
        s.has.column,
        (let l = s.has.cell.row in let f = s.has.far in let same : s.has.row ≡ 2 ^ depth t - suc south = omega (arith, l, f) in
            subst (λ j. IsNonzeroAt t s.has.column j) same s.has.cell),
      );
    }
