-- How many places there are.
use Rattle.std.proofs.Common.{◌≡◌, ℕ, ◌+◌, ◌*◌, ◌-◌, ◌/◌, ◌%◌, ◌<◌, ◌≤◌, Bool, true, false, List, [], ◌∷◌, length, refl, ap, arith, ◌⊎◌, inl, inr, length-append, nat_le, nat_lt, ◌&&◌, if◌then◌else◌, div-add-mod'}
use Rattle.std.proofs.lemmas.Bool.Decides.{nat_tests}
use Rattle.std.proofs.lemmas.Bool.{cases_lt}
use Rattle.std.proofs.lemmas.Nat.{mod_below}
use Rattle.std.proofs.Math.Nat.{mul-le-mul_right}
use Rattle.life_rle.specs.declared.item.Item.{Item}
use Rattle.life_rle.specs.declared.item.Item.TheVariants.{Cells, RowEnds}
use Rattle.life_rle.proofs.BlockItems.{weight, after_cells, after_rows, places_from, places, weigh, saved}
use Rattle.life_rle.proofs.BlockWeights.{weight-small}

-- how a step leads from square to square
pub data Step (m x c : ℕ) : Type 0 where
  stays : (x + c) / m ≡ x / m → (x + c) % m ≡ x % m + c → Step m x c
  next : (x + c) / m ≡ x / m + 1 → (x + c) % m + m ≡ x % m + c → Step m x c
  far : x / m + 2 ≤ (x + c) / m → m < c → Step m x c

pub step : (m x c : ℕ) → 0 < m → Step m x c
step m x c h =
    let u = x / m in
    let v = (x + c) / m in
    let a = div-add-mod' x m in
    let b = div-add-mod' (x + c) m in
    let r = mod_below x m h in
    let s = mod_below (x + c) m h in
    elim (cases_lt v u) [
      | inl lt ↦ let p = mul-le-mul_right m (by_suc v u lt) in absurd (omega (arith, a, b, r, s, p))
      | inr ge ↦ elim (cases_lt u v) [
        | inl more ↦ elim (cases_lt (u + 1) v) [
          | inl far_on ↦ let p = mul-le-mul_right m (by_two u v far_on) in far (by_two u v far_on) (omega (arith, a, b, r, s, p))
          | inr one ↦ let e : v ≡ u + 1 = omega (arith, one, more) in let p : v * m ≡ (u + 1) * m = ap (λ k. k * m) e in next e (omega (arith, a, b, p))
        ]
        | inr less ↦ let e : v ≡ u = omega (arith, less, ge) in let p : v * m ≡ u * m = ap (λ k. k * m) e in stays e (omega (arith, a, b, p))
      ]
    ]
  where
    by_suc : (a b : ℕ) → a < b → a + 1 ≤ b
    by_suc a b l = omega (arith, l)

    by_two : (a b : ℕ) → a + 1 < b → a + 2 ≤ b
    by_two a b l = omega (arith, l)

-- ---- what a step costs

saved-most : (m left x : ℕ) → 0 < m → saved m left x < m
saved-most m left x h = let s = mod_below x m h in elim (nat_lt (left / m) (x / m)) as (λ b. (if b then x % m else 0) < m) [ true ↦ s | false ↦ h ]

saved-none : (m left x : ℕ) → x / m ≤ left / m → saved m left x ≡ 0
saved-none m left x h = let e : nat_lt (left / m) (x / m) ≡ false = grind (arith, nat_tests, h) in rw e refl

saved-some : (m left x : ℕ) → left / m < x / m → saved m left x ≡ x % m
saved-some m left x h = let e : nat_lt (left / m) (x / m) ≡ true = grind (arith, nat_tests, h) in rw e refl

weight-large : (m c : ℕ) → m ≤ c → weight m c ≡ 4 * m
weight-large m c h = let e : nat_le m c ≡ true = grind (arith, nat_tests, h) in rw e refl

pub cells-large : (m left x y c : ℕ) → m ≤ c → after_cells m left x y c ≡ (y / m, (x + c) / m - 1) ∷ (y / m, (x + c) / m) ∷ []
cells-large m left x y c h = let e : nat_le m c ≡ true = grind (arith, nat_tests, h) in rw e refl

and_false : (b : Bool) (xs : List (ℕ × ℕ)) → (if b && false then xs else []) ≡ []
and_false true xs = refl
and_false false xs = refl

pub cells-free : (m left x y c : ℕ) → c < m → ((x + c) / m ≤ x / m) ⊎ ((x + c) / m ≤ left / m + 1) → after_cells m left x y c ≡ []
cells-free m left x y c h o = elim o [
  | inl k ↦
      let e : nat_le m c ≡ false = grind (arith, nat_tests, h) in
      let f : nat_lt (x / m) ((x + c) / m) ≡ false = grind (arith, nat_tests, k) in
      rw (e, f) refl
  | inr k ↦
      let e : nat_le m c ≡ false = grind (arith, nat_tests, h) in
      let f : nat_lt (left / m + 1) ((x + c) / m) ≡ false = grind (arith, nat_tests, k) in
      rw (e, f) (and_false (nat_lt (x / m) ((x + c) / m)) ((y / m, (x + c) / m) ∷ []))
]

pub cells-paid : (m left x y c : ℕ) → c < m → x / m < (x + c) / m → left / m + 1 < (x + c) / m → after_cells m left x y c ≡ (y / m, (x + c) / m) ∷ []
cells-paid m left x y c h k l =
    let e : nat_le m c ≡ false = grind (arith, nat_tests, h) in
    let f : nat_lt (x / m) ((x + c) / m) ≡ true = grind (arith, nat_tests, k) in
    let g : nat_lt (left / m + 1) ((x + c) / m) ≡ true = grind (arith, nat_tests, l) in
    rw (e, f, g) refl

cells-step : (m left x y c : ℕ) → 0 < m → length (after_cells m left x y c) * m + saved m left (x + c) ≤ weight m c + saved m left x
cells-step m left x y c h = elim (cases_lt c m) [
  | inr large ↦
      let s = saved-most m left (x + c) h in
      rw (cells-large m left x y c large, weight-large m c large) (omega (arith, s))
  | inl small ↦ elim (step m x c h) [
    | stays e f ↦
        rw (cells-free m left x y c small (inl (omega (arith, e))), weight-small m c small)
        (elim (cases_lt (left / m) (x / m)) [
          | inl k ↦ let p = saved-some m left x k in let q = saved-some m left (x + c) (omega (arith, k, e)) in omega (arith, p, q, f)
          | inr k ↦ let q = saved-none m left (x + c) (omega (arith, k, e)) in omega (arith, q)
        ])
    | next e f ↦ elim (cases_lt (left / m) (x / m)) [
      | inl k ↦
          let p = saved-some m left x k in
          let q = saved-some m left (x + c) (omega (arith, k, e)) in
          rw (cells-paid m left x y c small (omega (arith, e)) (omega (arith, e, k)), weight-small m c small) (omega (arith, p, q, f))
      | inr k ↦
          rw (cells-free m left x y c small (inr (omega (arith, e, k))), weight-small m c small)
          (let r = mod_below x m h in elim (cases_lt (left / m) ((x + c) / m)) [
            | inl j ↦ let q = saved-some m left (x + c) j in omega (arith, q, f, r)
            | inr j ↦ let q = saved-none m left (x + c) j in omega (arith, q)
          ])
    ]
    | far e f ↦ absurd (omega (arith, small, f))
  ]
]

rows-step : (m left y n : ℕ) → 0 < m → length (after_rows m left y n) * m + 2 * ((y + n) % m) ≤ weight m n + 2 * (y % m)
rows-step m left y n h = elim (step m y n h) [
  | stays e f ↦
      let t : nat_lt (y / m) ((y + n) / m) ≡ false = grind (arith, nat_tests, e) in
      let s = mod_below (y + n) m h in
      let w = weight-small m n (omega (arith, f, s)) in
      rw (t, w) (omega (arith, f))
  | next e f ↦
      let t : nat_lt (y / m) ((y + n) / m) ≡ true = grind (arith, nat_tests, e) in
      let s = mod_below (y + n) m h in
      let w = weight-two m n in
      rw t (omega (arith, f, s, w))
  | far e f ↦
      let t : nat_lt (y / m) ((y + n) / m) ≡ true = grind (arith, nat_tests, e) in
      let s = mod_below (y + n) m h in
      rw (t, weight-large m n (omega (arith, f))) (omega (arith, s))
]
  where
    weight-two : (m n : ℕ) → ((weight m n ≡ 4 * m) ⊎ (weight m n ≡ 2 * n))
    weight-two m n = elim (cases_lt n m) [ inl l ↦ inr (weight-small m n l) | inr l ↦ inl (weight-large m n l) ]

-- ---- what all steps cost

places-from-few : (m left x y : ℕ) (items : List Item) → 0 < m → length (places_from m left x y items) * m ≤ weigh m items + saved m left x + 2 * (y % m)
places-from-few m left x y [] h = omega arith
places-from-few m left x y (Cells count state ∷ items) h =
    let rest = places-from-few m left (x + count) y items h in
    let one = cells-step m left x y count h in
    rw (length-append (after_cells m left x y count) (places_from m left (x + count) y items)) (omega (arith, rest, one))
places-from-few m left x y (RowEnds count ∷ items) h =
    let rest = places-from-few m left left (y + count) items h in
    let none = saved-none m left left (omega arith) in
    let one = rows-step m left y count h in
    rw (length-append (after_rows m left y count) (places_from m left left (y + count) items)) (omega (arith, rest, one, none))

-- a level has four places, and those that its items pay
pub places-few : (m left y : ℕ) (items : List Item) → 0 < m → length (places m left y items) * m ≤ weigh m items + 4 * m
places-few m left y items h =
    let rest = places-from-few m left left y items h in
    let none = saved-none m left left (omega arith) in
    let r = mod_below y m h in
    omega (arith, rest, none, r)
