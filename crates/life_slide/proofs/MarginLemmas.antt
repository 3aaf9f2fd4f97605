-- Margins of a square: of its quarters, and what a square that begins at another place misses.
use Rattle.std.proofs.Common.{◌≡◌, ◌⊎◌, inl, inr, ℕ, suc, ◌+◌, ◌^◌, Bool, true, false, ℤ, ◌≤ℤ◌, ◌<ℤ◌, sym, ◌∙◌, ap, subst, arith}
use Rattle.std.proofs.lemmas.Int.{ints, by_lt_z}
use Rattle.life_base.specs.Tree.{Tree, quad, depth, blank}
use Rattle.life_pieces.specs.Pieces.{IsPiece, step_ahead}
use Rattle.life_pieces.proofs.PieceLemmas.{zero-of_blank}
use Rattle.life_slide.specs.declared.margins.Margins.{Margins}
use Rattle.life_slide.specs.Margins.{AreMarginsAt, AreMarginsOf, AreMarginsOfFour, IsAlong, IsOnSide, Misses}

-- ---- a square of which nothing is known, and a blank one

pub margins-none : (t : Tree) → AreMarginsOf t (record { west = 0; north = 0; east = 0; south = 0 })
margins-none t cells x y p =
    record {
      west = λ u v iu iv l. let a = iu.from in absurd (omega (arith, ints, l, a));
      north = λ u v iu iv l. let a = iv.from in absurd (omega (arith, ints, l, a));
      east = λ u v iu iv l. let a = iu.to in absurd (omega (arith, ints, l, a));
      south = λ u v iu iv l. let a = iv.to in absurd (omega (arith, ints, l, a));
    }

pub margins-blank : (t : Tree) (m : Margins) → t ≡ blank (depth t) → AreMarginsOf t m
margins-blank t m is cells x y p =
    let zero = zero-of_blank cells (depth t) x y (subst (IsPiece cells x y) is p) in
    let at : (u v : ℤ) → IsOnSide x (2 ^ depth t) u → IsOnSide y (2 ^ depth t) v → cells u v ≡ 0 = (λ u v iu iv.
    zero.zero_at u v iu.from iu.to iv.from iv.to) in
    record {
      west = λ u v iu iv l. at u v iu iv;
      north = λ u v iu iv l. at u v iu iv;
      east = λ u v iu iv l. at u v iu iv;
      south = λ u v iu iv l. at u v iu iv;
    }

-- ---- four squares

first-half : (x : ℤ) (side : ℕ) (u : ℤ) → IsOnSide x (side + side) u → u <ℤ step_ahead x side → IsOnSide x side u
first-half x side u i l = record { from = i.from; to = l }

second-half : (x : ℤ) (side : ℕ) (u : ℤ) → IsOnSide x (side + side) u → step_ahead x side ≤ℤ u → IsOnSide (step_ahead x side) side u
second-half x side u i l = let b = i.to in record { from = l; to = omega (arith, ints, b) }

-- where a column or row is that lies in a margin, by the widths that allow it
module _ (x : ℤ) (side : ℕ) (u : ℤ) (near other far behind width : ℕ) (s : IsAlong side near other far behind width) where
  near-first : u <ℤ step_ahead x width → u <ℤ step_ahead x side → (u <ℤ step_ahead x near) × (u <ℤ step_ahead x other)
  near-first l h = let a = s.first in let b = s.second in (omega (arith, ints, l, h, a), omega (arith, ints, l, h, b))

  far-first : u <ℤ step_ahead x width → (u <ℤ step_ahead (step_ahead x side) far) × (u <ℤ step_ahead (step_ahead x side) behind)
  far-first l = let a = s.third in let b = s.fourth in (omega (arith, ints, l, a), omega (arith, ints, l, b))

  near-last : step_ahead x (side + side) ≤ℤ step_ahead u width → step_ahead x side ≤ℤ u
      → (step_ahead (step_ahead x side) side ≤ℤ step_ahead u near) × (step_ahead (step_ahead x side) side ≤ℤ step_ahead u other)
  near-last l h = let a = s.first in let b = s.second in (omega (arith, ints, l, h, a), omega (arith, ints, l, h, b))

  far-last : step_ahead x (side + side) ≤ℤ step_ahead u width → (step_ahead x side ≤ℤ step_ahead u far) × (step_ahead x side ≤ℤ step_ahead u behind)
  far-last l = let a = s.third in let b = s.fourth in (omega (arith, ints, l, a), omega (arith, ints, l, b))

module _ (cells : ℤ → ℤ → ℕ) (x y : ℤ) (side : ℕ) (nw ne sw se m : Margins) (a : AreMarginsAt cells x y side nw)
    (b : AreMarginsAt cells (step_ahead x side) y side ne) (c : AreMarginsAt cells x (step_ahead y side) side sw)
    (d : AreMarginsAt cells (step_ahead x side) (step_ahead y side) side se) (s : AreMarginsOfFour side nw ne sw se m) where
  -- a cell lies in one of the four
  by-four : (u v : ℤ) → IsOnSide x (side + side) u → IsOnSide y (side + side) v
      → (IsOnSide x side u → IsOnSide y side v → u <ℤ step_ahead x side → v <ℤ step_ahead y side → cells u v ≡ 0)
      → (IsOnSide (step_ahead x side) side u → IsOnSide y side v → step_ahead x side ≤ℤ u → v <ℤ step_ahead y side → cells u v ≡ 0)
      → (IsOnSide x side u → IsOnSide (step_ahead y side) side v → u <ℤ step_ahead x side → step_ahead y side ≤ℤ v → cells u v ≡ 0)
      → (IsOnSide (step_ahead x side) side u → IsOnSide (step_ahead y side) side v → step_ahead x side ≤ℤ u → step_ahead y side ≤ℤ v → cells u v ≡ 0)
      → cells u v ≡ 0
  by-four u v iu iv f g h k =
      by_lt_z u (step_ahead x side)
      (λ lu. by_lt_z v (step_ahead y side)
      (λ lv. f (first-half x side u iu lu) (first-half y side v iv lv) lu lv)
      (λ lv. h (first-half x side u iu lu) (second-half y side v iv lv) lu lv))
      (λ lu. by_lt_z v (step_ahead y side)
      (λ lv. g (second-half x side u iu lu) (first-half y side v iv lv) lu lv)
      (λ lv. k (second-half x side u iu lu) (second-half y side v iv lv) lu lv))

  four-west : (u v : ℤ) → IsOnSide x (side + side) u → IsOnSide y (side + side) v → u <ℤ step_ahead x m.west → cells u v ≡ 0
  four-west u v iu iv l =
      by-four u v iu iv
      (λ i j p q. a.west u v i j (near-first x side u _ _ _ _ _ s.west l p).0)
      (λ i j p q. b.west u v i j (far-first x side u _ _ _ _ _ s.west l).0)
      (λ i j p q. c.west u v i j (near-first x side u _ _ _ _ _ s.west l p).1)
      (λ i j p q. d.west u v i j (far-first x side u _ _ _ _ _ s.west l).1)

  four-north : (u v : ℤ) → IsOnSide x (side + side) u → IsOnSide y (side + side) v → v <ℤ step_ahead y m.north → cells u v ≡ 0
  four-north u v iu iv l =
      by-four u v iu iv
      (λ i j p q. a.north u v i j (near-first y side v _ _ _ _ _ s.north l q).0)
      (λ i j p q. b.north u v i j (near-first y side v _ _ _ _ _ s.north l q).1)
      (λ i j p q. c.north u v i j (far-first y side v _ _ _ _ _ s.north l).0)
      (λ i j p q. d.north u v i j (far-first y side v _ _ _ _ _ s.north l).1)

  four-east : (u v : ℤ) → IsOnSide x (side + side) u → IsOnSide y (side + side) v → step_ahead x (side + side) ≤ℤ step_ahead u m.east → cells u v ≡ 0
  four-east u v iu iv l =
      by-four u v iu iv
      (λ i j p q. a.east u v i j (far-last x side u _ _ _ _ _ s.east l).0)
      (λ i j p q. b.east u v i j (near-last x side u _ _ _ _ _ s.east l p).0)
      (λ i j p q. c.east u v i j (far-last x side u _ _ _ _ _ s.east l).1)
      (λ i j p q. d.east u v i j (near-last x side u _ _ _ _ _ s.east l p).1)

  four-south : (u v : ℤ) → IsOnSide x (side + side) u → IsOnSide y (side + side) v → step_ahead y (side + side) ≤ℤ step_ahead v m.south → cells u v ≡ 0
  four-south u v iu iv l =
      by-four u v iu iv
      (λ i j p q. a.south u v i j (far-last y side v _ _ _ _ _ s.south l).0)
      (λ i j p q. b.south u v i j (far-last y side v _ _ _ _ _ s.south l).1)
      (λ i j p q. c.south u v i j (near-last y side v _ _ _ _ _ s.south l q).0)
      (λ i j p q. d.south u v i j (near-last y side v _ _ _ _ _ s.south l q).1)

-- the margins of a square by those of its quarters
pub margins-joined : (t a b c d : Tree) (j : ℕ) (nw ne sw se m : Margins) → t ≡ quad a b c d → depth a ≡ j → depth b ≡ j → depth c ≡ j → depth d ≡ j
    → AreMarginsOf a nw → AreMarginsOf b ne → AreMarginsOf c sw → AreMarginsOf d se → AreMarginsOfFour (2 ^ j) nw ne sw se m → AreMarginsOf t m
margins-joined t a b c d j nw ne sw se m is ea eb ec ed ha hb hc hd s = subst (λ u. AreMarginsOf u m) (sym is) whole
  where
    side-of : (u : Tree) → depth u ≡ j → 2 ^ depth u ≡ 2 ^ j
    side-of u e = ap (λ n. 2 ^ n) e

    double : (n : ℕ) → 2 ^ suc n ≡ 2 ^ n + 2 ^ n
    double n = grind arith

    at : (cells : ℤ → ℤ → ℕ) (u : Tree) (e : depth u ≡ j) (n : Margins) → AreMarginsOf u n → (x y : ℤ) → IsPiece cells x y u
        → AreMarginsAt cells x y (2 ^ j) n
    at cells u e n h x y p = subst (λ side. AreMarginsAt cells x y side n) (side-of u e) (h cells x y p)

    whole : AreMarginsOf (quad a b c d) m
    whole cells x y p =
        let e = side-of a ea in
        let pieces = subst (λ side. IsPiece cells x y a × IsPiece cells (step_ahead x side) y b × IsPiece cells x (step_ahead y side) c
        × IsPiece cells (step_ahead x side) (step_ahead y side) d) e p in
        let pa = at cells a ea nw ha _ _ pieces.0 in
        let pb = at cells b eb ne hb _ _ pieces.1 in
        let pc = at cells c ec sw hc _ _ pieces.2 in
        let pd = at cells d ed se hd _ _ pieces.3 in
        subst (λ side. AreMarginsAt cells x y side m) (sym (double (depth a) ∙ ap (λ n. n + n) e))
        (record {
          west = four-west cells x y (2 ^ j) nw ne sw se m pa pb pc pd s;
          north = four-north cells x y (2 ^ j) nw ne sw se m pa pb pc pd s;
          east = four-east cells x y (2 ^ j) nw ne sw se m pa pb pc pd s;
          south = four-south cells x y (2 ^ j) nw ne sw se m pa pb pc pd s;
        })

-- ---- what is seen of a square

-- whether the square that begins so far in the first of two squares side by side has this column or row of the last, or of the first, which begins there
abbrev pub Sees : Bool → ℕ → ℤ → ℤ → Type 0
Sees true offset place u = u <ℤ step_ahead place offset
Sees false offset place u = step_ahead place offset ≤ℤ u

missed-column : (cells : ℤ → ℤ → ℕ) (x y : ℤ) (side columns : ℕ) (m : Margins) (last : Bool) → AreMarginsAt cells x y side m
    → Misses last columns side m.west m.east → (u v : ℤ) → IsOnSide x side u → IsOnSide y side v → Sees last columns x u → cells u v ≡ 0
missed-column cells x y side columns m true h miss u v iu iv sees = h.west u v iu iv (omega (arith, ints, miss, sees))
missed-column cells x y side columns m false h miss u v iu iv sees = h.east u v iu iv (omega (arith, ints, miss, sees))

missed-row : (cells : ℤ → ℤ → ℕ) (x y : ℤ) (side rows : ℕ) (m : Margins) (last : Bool) → AreMarginsAt cells x y side m
    → Misses last rows side m.north m.south → (u v : ℤ) → IsOnSide x side u → IsOnSide y side v → Sees last rows y v → cells u v ≡ 0
missed-row cells x y side rows m true h miss u v iu iv sees = h.north u v iu iv (omega (arith, ints, miss, sees))
missed-row cells x y side rows m false h miss u v iu iv sees = h.south u v iu iv (omega (arith, ints, miss, sees))

-- a square of which nothing but a margin is seen has no cell there
pub missed : (t : Tree) (k : ℕ) (m : Margins) (east south : Bool) (columns rows : ℕ) → depth t ≡ k → AreMarginsOf t m
    → Misses east columns (2 ^ k) m.west m.east ⊎ Misses south rows (2 ^ k) m.north m.south
    → (cells : ℤ → ℤ → ℕ) (x y : ℤ) → IsPiece cells x y t → (u v : ℤ) → IsOnSide x (2 ^ k) u → IsOnSide y (2 ^ k) v
    → Sees east columns x u → Sees south rows y v → cells u v ≡ 0
missed t k m east south columns rows level h miss cells x y p u v iu iv column row = by miss
  where
    at : AreMarginsAt cells x y (2 ^ k) m
    at = subst (λ n. AreMarginsAt cells x y (2 ^ n) m) level (h cells x y p)

    by : Misses east columns (2 ^ k) m.west m.east ⊎ Misses south rows (2 ^ k) m.north m.south → cells u v ≡ 0
    by (inl a) = missed-column cells x y (2 ^ k) columns m east at a u v iu iv column
    by (inr a) = missed-row cells x y (2 ^ k) rows m south at a u v iu iv row
