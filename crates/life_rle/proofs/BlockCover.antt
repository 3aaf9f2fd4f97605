-- Each square with cells is one of those at the places.
use Rattle.std.proofs.Common.{◌≡◌, ◌≢◌, ℕ, zero, suc, ◌+◌, ◌*◌, ◌-◌, ◌/◌, ◌<◌, ◌≤◌, Bool, true, false, List, [], ◌∷◌, ◌++◌, refl, ap, sym, ◌∙◌, subst, arith, ◌⊎◌, inl, inr, nat_le, nat_lt, ◌&&◌, ◌==◌, if◌then◌else◌}
use Rattle.std.proofs.lemmas.Bool.Decides.{nat_tests}
use Rattle.std.proofs.lemmas.Bool.{cases_lt, cases_eq, cases_Bool}
use Rattle.std.proofs.lemmas.Nat.{div-mul-add}
use Rattle.life_rle.specs.declared.item.Item.{Item}
use Rattle.life_rle.specs.declared.item.Item.TheVariants.{Cells, RowEnds}
use Rattle.life_rle.proofs.BlockItems.{after_cells, after_rows, places_from, places, state_from, IsAt, Visits, Among}
use Rattle.life_rle.proofs.BlockPlaces.{Step, stays, next, far, step, cells-large, cells-paid}

-- ---- lists

pub among-left : {A : Type 0} (xs ys : List A) (a : A) → Among xs a → Among (xs ++ ys) a
among-left [] ys a h = absurd h
among-left (x ∷ xs) ys a (inl e) = inl e
among-left (x ∷ xs) ys a (inr h) = inr (among-left xs ys a h)

pub among-right : {A : Type 0} (xs ys : List A) (a : A) → Among ys a → Among (xs ++ ys) a
among-right [] ys a h = h
among-right (x ∷ xs) ys a h = inr (among-right xs ys a h)

-- ---- where the pen comes

at_or_not : (m x y s t : ℕ) → IsAt m x y s t ⊎ (IsAt m x y s t → ⊥)
at_or_not m x y s t = elim (cases_eq (y / m) s) [
  | inl e ↦ elim (cases_eq (x / m) t) [ inl f ↦ inl (record { row = e; column = f }) | inr f ↦ inr (λ h. f h.column) ]
  | inr e ↦ inr (λ h. e h.row)
]

either_or : {A B : Type 0} → A ⊎ (A → ⊥) → B ⊎ (B → ⊥) → (A ⊎ B) ⊎ (A ⊎ B → ⊥)
either_or (inl a) o = inl (inl a)
either_or (inr f) (inl b) = inl (inr b)
either_or {A} {B} (inr f) (inr g) = inr neither
  where
    neither : A ⊎ B → ⊥
    neither (inl a) = f a
    neither (inr b) = g b

visits_or_not : (m left x y : ℕ) (items : List Item) (s t : ℕ) → Visits m left x y items s t ⊎ (Visits m left x y items s t → ⊥)
visits_or_not m left x y [] s t = at_or_not m x y s t
visits_or_not m left x y (Cells count state ∷ items) s t = either_or (at_or_not m x y s t) (visits_or_not m left (x + count) y items s t)
visits_or_not m left x y (RowEnds count ∷ items) s t = either_or (at_or_not m x y s t) (visits_or_not m left left (y + count) items s t)

-- the pen is where it begins
visits-first : (m left x y : ℕ) (items : List Item) (s t : ℕ) → IsAt m x y s t → Visits m left x y items s t
visits-first m left x y [] s t h = h
visits-first m left x y (Cells count state ∷ items) s t h = inl h
visits-first m left x y (RowEnds count ∷ items) s t h = inl h

-- ---- each place where the pen comes is one of the list, or a first one of its row

module _ (m left : ℕ) (h : 0 < m) (C : ℕ × ℕ → Type 0) where
  -- what the pen has when it stands somewhere
  pub record HasHere (x y : ℕ) : Type 0 where
    pub east : left ≤ x
    pub here : C (y / m, x / m)
    pub first : C (y / m, left / m)
    pub second : C (y / m, left / m + 1)

  columns-up : (x : ℕ) → left ≤ x → left / m ≤ x / m
  columns-up x le =
      let e : left + (x - left) ≡ x = omega (arith, le) in
      let by : Step m left (x - left) → left / m ≤ (left + (x - left)) / m = λ s. elim s
      [ stays p q ↦ omega (arith, p) | next p q ↦ omega (arith, p) | far p q ↦ omega (arith, p) ] in
      subst (λ z. left / m ≤ z / m) e (by (step m left (x - left) h))

  cells-here : (x y c : ℕ) → HasHere x y → ((p : ℕ × ℕ) → Among (after_cells m left x y c) p → C p) → HasHere (x + c) y
  cells-here x y c now have =
      record { east = omega (arith, now.east); here = there; first = now.first; second = now.second }
    where
      there : C (y / m, (x + c) / m)
      there = elim (cases_lt c m) [
        | inr large ↦ have (y / m, (x + c) / m) (subst (λ ps. Among ps (y / m, (x + c) / m)) (sym (cells-large m left x y c large)) (inr (inl refl)))
        | inl small ↦ elim (step m x c h) [
          | stays e f ↦ subst (λ t. C (y / m, t)) (sym e) now.here
          | next e f ↦ elim (cases_lt (left / m + 1) ((x + c) / m)) [
            | inl k ↦
                have (y / m, (x + c) / m) (subst (λ ps. Among ps (y / m, (x + c) / m)) (sym (cells-paid m left x y c small (omega (arith, e)) k)) (inl refl))
            | inr k ↦
                let up = columns-up x now.east in
                let one : (x + c) / m ≡ left / m + 1 = omega (arith, k, e, up) in
                subst (λ t. C (y / m, t)) (sym one) now.second
          ]
          | far e f ↦ absurd (omega (arith, small, f))
        ]
      ]

  rows-here : (x y n : ℕ) → HasHere x y → ((p : ℕ × ℕ) → Among (after_rows m left y n) p → C p) → HasHere left (y + n)
  rows-here x y n now have = elim (cases_lt (y / m) ((y + n) / m)) [
    | inl k ↦
        let t : nat_lt (y / m) ((y + n) / m) ≡ true = grind (arith, nat_tests, k) in
        let e : after_rows m left y n ≡ ((y + n) / m, left / m) ∷ ((y + n) / m, left / m + 1) ∷ [] = rw t refl in
        let first = have ((y + n) / m, left / m) (subst (λ ps. Among ps ((y + n) / m, left / m)) (sym e) (inl refl)) in
        let second = have ((y + n) / m, left / m + 1) (subst (λ ps. Among ps ((y + n) / m, left / m + 1)) (sym e) (inr (inl refl))) in
        record { east = omega arith; here = first; first = first; second = second }
    | inr k ↦
        let same : (y + n) / m ≡ y / m = by (step m y n h) k in
        let first = subst (λ s. C (s, left / m)) (sym same) now.first in
        record { east = omega arith; here = first; first = first; second = subst (λ s. C (s, left / m + 1)) (sym same) now.second }
  ]
    where
      by : Step m y n → (y + n) / m ≤ y / m → (y + n) / m ≡ y / m
      by (stays e f) k = e
      by (next e f) k = absurd (omega (arith, e, k))
      by (far e f) k = absurd (omega (arith, e, k))

  pub visited : (x y : ℕ) (items : List Item) (s t : ℕ) → HasHere x y → ((p : ℕ × ℕ) → Among (places_from m left x y items) p → C p)
      → Visits m left x y items s t → C (s, t)
  visited x y [] s t now have v = subst (λ s. C (s, t)) v.row (subst (λ t. C (y / m, t)) v.column now.here)
  visited x y (Cells count state ∷ items) s t now have (inl v) = subst (λ s. C (s, t)) v.row (subst (λ t. C (y / m, t)) v.column now.here)
  visited x y (Cells count state ∷ items) s t now have (inr v) =
      visited (x + count) y items s t
      (cells-here x y count now (λ p a. have p (among-left (after_cells m left x y count) (places_from m left (x + count) y items) p a)))
      (λ p a. have p (among-right (after_cells m left x y count) (places_from m left (x + count) y items) p a)) v
  visited x y (RowEnds count ∷ items) s t now have (inl v) = subst (λ s. C (s, t)) v.row (subst (λ t. C (y / m, t)) v.column now.here)
  visited x y (RowEnds count ∷ items) s t now have (inr v) =
      visited left (y + count) items s t
      (rows-here x y count now (λ p a. have p (among-left (after_rows m left y count) (places_from m left left (y + count) items) p a)))
      (λ p a. have p (among-right (after_rows m left y count) (places_from m left left (y + count) items) p a)) v

-- ---- the place west of one where the pen comes is in the list too, unless the pen comes there, or the row begins in the second

west-large : (m x c t : ℕ) → 0 < m → (x + c) / m ≡ suc t → x / m ≢ suc t → x / m ≢ t → m ≤ c
west-large m x c t h e f g = by (step m x c h)
  where
    by : Step m x c → m ≤ c
    by (stays p q) = absurd (f (sym p ∙ e))
    by (next p q) = absurd (g (omega (arith, p, e)))
    by (far p q) = omega (arith, q)

module _ (m left : ℕ) (h : 0 < m) where
  pub west : (x y : ℕ) (items : List Item) (s t : ℕ) → left / m ≢ suc t → (IsAt m x y s (suc t) → ⊥) → Visits m left x y items s (suc t)
      → (Visits m left x y items s t → ⊥) → Among (places_from m left x y items) (s, t)
  west x y [] s t q first v none = absurd (first v)
  west x y (Cells count state ∷ items) s t q first (inl v) none = absurd (first v)
  west x y (Cells count state ∷ items) s t q first (inr v) none = elim (at_or_not m (x + count) y s (suc t)) [
    | inl now ↦
        let large = west-large m x count t h now.column (λ e. first (record { row = now.row; column = e }))
        (λ e. none (inl (record { row = now.row; column = e }))) in
        let one : (x + count) / m - 1 ≡ t = omega (arith, now.column) in
        let e : (y / m, (x + count) / m - 1) ≡ (s, t) = (λ i. (now.row i, one i)) in
        among-left (after_cells m left x y count) (places_from m left (x + count) y items) (s, t)
        (subst (λ ps. Among ps (s, t)) (sym (cells-large m left x y count large)) (inl e))
    | inr other ↦
        among-right (after_cells m left x y count) (places_from m left (x + count) y items) (s, t)
        (west (x + count) y items s t q other v (λ z. none (inr z)))
  ]
  west x y (RowEnds count ∷ items) s t q first (inl v) none = absurd (first v)
  west x y (RowEnds count ∷ items) s t q first (inr v) none =
      among-right (after_rows m left y count) (places_from m left left (y + count) items) (s, t)
      (west left (y + count) items s t q (λ z. q z.column) v (λ z. none (inr z)))

-- ---- cells

-- a column of cells with no place of the pen in the square of a column nor in the next lies before it or after the same column of the next
apart : (m z c : ℕ) → 0 < m → z / m ≢ c / m → z / m ≢ c / m + 1 → (z ≤ c) ⊎ (c + m < z)
apart m z c h p q = elim (cases_lt c z) [
  | inl lt ↦
      let e : c + (z - c) ≡ z = omega (arith, lt) in
      elim (step m c (z - c) h) [
        | stays a b ↦ absurd (p (subst (λ k. k / m ≡ c / m) e a))
        | next a b ↦ absurd (q (subst (λ k. k / m ≡ c / m + 1) e a))
        | far a b ↦ inr (omega (arith, b, e))
      ]
  | inr ge ↦ inl ge
]

same-sides : (x n c m : ℕ) → (x ≤ c) ⊎ (c + m < x) → (x + n ≤ c) ⊎ (c + m < x + n)
    → (nat_le x c && nat_lt c (x + n)) ≡ (nat_le x (c + m) && nat_lt (c + m) (x + n))
same-sides x n c m (inl a) (inl b) =
    let e : nat_lt c (x + n) ≡ false = grind (arith, nat_tests, b) in
    let f : nat_lt (c + m) (x + n) ≡ false = grind (arith, nat_tests, b) in
    rw (e, f) (and_false_both (nat_le x c) (nat_le x (c + m)))
  where
    and_false_both : (a b : Bool) → (a && false) ≡ (b && false)
    and_false_both true true = refl
    and_false_both true false = refl
    and_false_both false true = refl
    and_false_both false false = refl
same-sides x n c m (inl a) (inr b) =
    let e : nat_lt c (x + n) ≡ true = grind (arith, nat_tests, b) in
    let f : nat_lt (c + m) (x + n) ≡ true = grind (arith, nat_tests, b) in
    let g : nat_le x c ≡ true = grind (arith, nat_tests, a) in
    let k : nat_le x (c + m) ≡ true = grind (arith, nat_tests, a) in
    rw (e, f, g, k) refl
same-sides x n c m (inr a) b =
    let g : nat_le x c ≡ false = grind (arith, nat_tests, a) in
    let k : nat_le x (c + m) ≡ false = grind (arith, nat_tests, a) in
    rw (g, k) refl

module _ (m left : ℕ) (h : 0 < m) (column row : ℕ) where
  here-apart : (x y : ℕ) → row ≡ y → (IsAt m x y (row / m) (column / m) → ⊥) → (IsAt m x y (row / m) (column / m + 1) → ⊥) → (x ≤ column) ⊎ (column + m < x)
  here-apart x y e p q =
      let at : y / m ≡ row / m = ap (λ k. k / m) (sym e) in
      apart m x column h (λ f. p (record { row = at; column = f })) (λ f. q (record { row = at; column = f }))

  -- a cell has the state of the same cell of the next square, if the pen comes to neither
  pub state-next : (x y : ℕ) (items : List Item) → (Visits m left x y items (row / m) (column / m) → ⊥)
      → (Visits m left x y items (row / m) (column / m + 1) → ⊥)
      → state_from left x y items column row ≡ state_from left x y items (column + m) row
  state-next x y [] p q = refl
  state-next x y (RowEnds count ∷ items) p q = state-next left (y + count) items (λ v. p (inr v)) (λ v. q (inr v))
  state-next x y (Cells count state ∷ items) p q =
      let rest = state-next (x + count) y items (λ v. p (inr v)) (λ v. q (inr v)) in
      elim (cases_eq row y) [
        | inl e ↦
            let a = here-apart x y e (λ v. p (inl v)) (λ v. q (inl v)) in
            let b = here-apart (x + count) y e (λ v. p (inr (visits-first m left (x + count) y items (row / m) (column / m) v)))
            (λ v. q (inr (visits-first m left (x + count) y items (row / m) (column / m + 1) v))) in
            let t = same-sides x count column m a b in
            rw (t, rest) refl
        | inr e ↦
            let f : (row == y) ≡ false = grind (arith, nat_tests, e) in
            rw (f, rest) refl
      ]

-- ---- where cells are

div-up : (m a b : ℕ) → 0 < m → a ≤ b → a / m ≤ b / m
div-up m a b h le =
    let e : a + (b - a) ≡ b = omega (arith, le) in
    subst (λ z. a / m ≤ z / m) e (by (step m a (b - a) h))
  where
    by : Step m a (b - a) → a / m ≤ (a + (b - a)) / m
    by (stays p q) = omega (arith, p)
    by (next p q) = omega (arith, p)
    by (far p q) = omega (arith, p)

module _ (m left : ℕ) (h : 0 < m) (column row : ℕ) where
  -- the pen comes to a column of squares at a cell or east of it
  pub east : (x y : ℕ) (items : List Item) → (state_from left x y items column row ≡ 0 → ⊥)
      → (t : ℕ) × Visits m left x y items (row / m) t × (column / m ≤ t)
  east x y [] some = absurd (some refl)
  east x y (RowEnds count ∷ items) some = let rest = east left (y + count) items some in (rest.0, inr rest.1, rest.2)
  east x y (Cells count state ∷ items) some = elim (cases_Bool (row == y && (nat_le x column && nat_lt column (x + count)))) [
    | inl e ↦
        let same : row ≡ y = grind (arith, nat_tests, e) in
        let below : column < x + count = grind (arith, nat_tests, e) in (
          (x + count) / m,
          inr (visits-first m left (x + count) y items (row / m) ((x + count) / m) (record { row = ap (λ k. k / m) (sym same); column = refl })),
          div-up m column (x + count) h (omega (arith, below)),
        )
    | inr e ↦
        let rest = east (x + count) y items (λ z. some (ap (λ b. if b then state else state_from left (x + count) y items column row) e ∙ z)) in
        (rest.0, inr rest.1, rest.2)
  ]

  -- no cell is west of the column at which rows begin
  pub from_left : (x y : ℕ) (items : List Item) → left ≤ x → (state_from left x y items column row ≡ 0 → ⊥) → left ≤ column
  from_left x y [] le some = absurd (some refl)
  from_left x y (RowEnds count ∷ items) le some = from_left left (y + count) items (omega arith) some
  from_left x y (Cells count state ∷ items) le some = elim (cases_Bool (row == y && (nat_le x column && nat_lt column (x + count)))) [
    | inl e ↦ let above : x ≤ column = grind (arith, nat_tests, e) in omega (arith, above, le)
    | inr e ↦
        from_left (x + count) y items (omega (arith, le)) (λ z. some (ap (λ b. if b then state else state_from left (x + count) y items column row) e ∙ z))
  ]

-- ---- each square with cells is one of those at the places

-- the cells of two squares of a side in a row of squares are the same
abbrev pub SameBlock : ℕ → (ℕ → ℕ → ℕ) → ℕ → ℕ → ℕ → Type 0
SameBlock m state s t u = (i j : ℕ) → i < m → j < m → state (t * m + i) (s * m + j) ≡ state (u * m + i) (s * m + j)

module _ (m left : ℕ) (h : 0 < m) (y : ℕ) (items : List Item) where
  abbrev cells : ℕ → ℕ → ℕ
  cells = state_from left left y items

  block-next : (s t : ℕ) → (Visits m left left y items s t → ⊥) → (Visits m left left y items s (suc t) → ⊥) → SameBlock m cells s t (suc t)
  block-next s t p q i j li lj =
      let c : (t * m + i) / m ≡ t = div-mul-add t m i li in
      let r : (s * m + j) / m ≡ s = div-mul-add s m j lj in
      let one : t + 1 ≡ suc t = omega arith in
      let over : t * m + i + m ≡ suc t * m + i = omega arith in
      state-next m left h (t * m + i) (s * m + j) left y items
      (subst (λ a. Visits m left left y items a ((t * m + i) / m) → ⊥) (sym r) (subst (λ a. Visits m left left y items s a → ⊥) (sym c) p))
      (subst (λ a. Visits m left left y items a ((t * m + i) / m + 1) → ⊥) (sym r)
      (subst (λ a. Visits m left left y items s (a + 1) → ⊥) (sym c) (subst (λ a. Visits m left left y items s a → ⊥) (sym one) q)))
      ∙ ap (λ a. cells a (s * m + j)) over

  find : (d s t : ℕ) → left / m ≤ t → (Visits m left left y items s t → ⊥) → Visits m left left y items s (t + suc d)
      → (u : ℕ) × Among (places_from m left left y items) (s, u) × SameBlock m cells s t u
  find zero s t le none v =
      let e : t + suc zero ≡ suc t = omega arith in
      let now = subst (Visits m left left y items s) e v in
      (t, west m left h left y items s t (λ e. absurd (omega (arith, e, le))) (λ z. absurd (omega (arith, z.column, le))) now none, λ i j li lj. refl)
  find (suc d) s t le none v = elim (visits_or_not m left left y items s (suc t)) [
    | inl now ↦ (t, west m left h left y items s t (λ e. absurd (omega (arith, e, le))) (λ z. absurd (omega (arith, z.column, le))) now none, λ i j li lj. refl)
    | inr absent ↦
        let e : t + suc (suc d) ≡ suc t + suc d = omega arith in
        let rest = find d s (suc t) (omega (arith, le)) absent (subst (Visits m left left y items s) e v) in
        (rest.0, rest.1, λ i j li lj. block-next s t none absent i j li lj ∙ rest.2 i j li lj)
  ]

  pub cover : (s t i j : ℕ) → i < m → j < m → (cells (t * m + i) (s * m + j) ≡ 0 → ⊥)
      → (u : ℕ) × Among (places m left y items) (s, u) × SameBlock m cells s t u
  cover s t i j li lj some = elim (visits_or_not m left left y items s t) [
    | inl v ↦ (t, visited m left h (Among (places m left y items)) left y items s t start (λ p a. inr (inr a)) v, λ i j li lj. refl)
    | inr none ↦
        let c : (t * m + i) / m ≡ t = div-mul-add t m i li in
        let r : (s * m + j) / m ≡ s = div-mul-add s m j lj in
        let e = east m left h (t * m + i) (s * m + j) left y items some in
        let at : Visits m left left y items s e.0 = subst (λ a. Visits m left left y items a e.0) r e.1 in
        let le : t ≤ e.0 = omega (arith, e.2, c) in
        let west_end : left / m ≤ t = let p = div-up m left (t * m + i) h
        (from_left m left h (t * m + i) (s * m + j) left y items (omega arith) some) in omega (arith, p, c) in
        elim (cases_lt t e.0) [
          | inl lt ↦
              let d : e.0 ≡ t + suc (e.0 - suc t) = omega (arith, lt) in
              let found = find (e.0 - suc t) s t west_end none (subst (Visits m left left y items s) d at) in
              (found.0, inr (inr found.1), found.2)
          | inr ge ↦ let same : e.0 ≡ t = omega (arith, ge, le) in absurd (none (subst (Visits m left left y items s) same at))
        ]
  ]
    where
      start : HasHere m left h (Among (places m left y items)) left y
      start = record { east = omega arith; here = inl refl; first = inl refl; second = inr (inl refl) }
