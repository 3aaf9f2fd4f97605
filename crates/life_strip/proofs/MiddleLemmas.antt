-- Facts about the squares of a strip beside the middle of the plane.
use Rattle.std.proofs.Common.{◌≡◌, ◌⊎◌, ℕ, zero, suc, ◌+◌, ◌-◌, ◌*◌, ◌/◌, ◌%◌, ◌^◌, ◌≤◌, ◌<◌, inl, inr, Bool, true, false, nat_lt, nat_le, List, [], ◌∷◌, All, length, get_or, drop, Option, Some, None, refl, sym, ◌∙◌, ap, subst, arith, if◌then◌else◌, div-add-mod', pow-add, slice_get}
use Rattle.std.proofs.lemmas.Option.{same_Some}
use Rattle.std.proofs.lemmas.Bool.{cases_lt}
use Rattle.std.proofs.lemmas.List.Elements.{All-tail}
use Rattle.std.proofs.lemmas.Nat.{div-mul-add, mod-mul-add, mod_below}
use Rattle.std.proofs.Math.Pow.{pow_mono}
use Rattle.std.proofs.Math.Nat.{mul_comm, add-mul, mul-le-mul_left}
use Rattle.life_base.specs.declared.cell.TheConstants.{MAX_LEVEL}
use Rattle.life_base.specs.Tree.{Tree, blank, depth, quad, state_at, IsFull}
use Rattle.life_base.proofs.Basics.{twice, zero_unless}
use Rattle.life_base.proofs.Squares.{at_ne, at_nw, at_se, at_sw, blank_is, depth-blank, full-blank, state_at-blank}
use Rattle.life_quad.specs.declared.id.Id.{Id}
use Rattle.life_quad.proofs.LawLemmas.{blank_by_cells}
use Rattle.life_strip.specs.declared.spans.Span.{Span}
use Rattle.life_strip.specs.declared.spans.Strip.{Strip}
use Rattle.life_strip.specs.Given.{half_plane}
use Rattle.life_strip.specs.Middle.{AreAdjacent, IsAboutMiddle, IsBlankTo, SomeWider}
use Rattle.life_strip.specs.Needed.{SomeColumn}
use Rattle.life_strip.specs.Picture.{AreFalling, height, picture, state_in_strip, IsSoundStrip}
use Rattle.life_strip.specs.Strip.{id_at, id_or, quad_at, square_at, square_or_blank, IsPast, IsStrip, HaveColumns, Rise}
use Rattle.life_strip.proofs.MergeLemmas.{raised-needs}
use Rattle.life_strip.proofs.NeededLemmas.{in_plane, SomeSquare-same}
use Rattle.life_strip.proofs.PictureLemmas.{height-falling, positive_power}
use Rattle.life_strip.proofs.SpanLemmas.{depth-square_at, id_at-after, none_beyond}
use Rattle.life_strip.proofs.WordLemmas.{span-at}

-- ---- spans in some columns

-- each span is in these columns, or has the blank square
abbrev pub IsInside : ℕ → ℕ → Id → Span → Type 0
IsInside from to blank s = (s.square ≡ blank) ⊎ ((from ≤ s.start) × (s.end ≤ to))

abbrev pub AreInside : ℕ → ℕ → Id → List Span → Type 0
AreInside from to blank spans = All (IsInside from to blank) spans

-- elsewhere is the blank square
pub inside-blank : (from to : ℕ) (empty : Id) (xs : List Span) → AreInside from to empty xs → (c : ℕ) → ¬ ((from ≤ c) × (c < to))
    → id_or empty (id_at xs c) ≡ empty
inside-blank from to empty [] h c out = refl
inside-blank from to empty (x ∷ xs) h c out =
    by (inside-blank from to empty xs (All-tail (IsInside from to empty) x xs h) c out) (nat_lt c x.end) refl
    (nat_le x.start c) refl
  where
    one : (x.square ≡ empty) ⊎ ((from ≤ x.start) × (x.end ≤ to)) → x.start ≤ c → c < x.end → x.square ≡ empty
    one (inl e) a b = e
    one (inr f) a b = absurd (out (omega (arith, f.0, a), omega (arith, f.1, b)))

    by : id_or empty (id_at xs c) ≡ empty → (p : Bool) → nat_lt c x.end ≡ p → (q : Bool) → nat_le x.start c ≡ q → id_or empty (id_at (x ∷ xs) c) ≡ empty
    by more false e q f = ap (λ b. id_or empty (if b then (if nat_le x.start c then Some x.square else None) else id_at xs c)) e ∙ more
    by more true e false f = λ i. id_or empty (if e i then (if f i then Some x.square else None) else id_at xs c)
    by more true e true f =
        (λ i. id_or empty (if e i then (if f i then Some x.square else None) else id_at xs c)) ∙ one (h 0 x (omega arith)) (grind arith) (grind arith)

-- the spans before one are passed where it begins
pub past-start : (xs : List Span) → Rise xs → (i : ℕ) (d : Span) → i < length xs → IsPast xs i (get_or xs i d).start
past-start [] rise i d lt c le = absurd (omega (arith, lt))
past-start (x ∷ xs) rise zero d lt c le = refl
past-start (x ∷ xs) rise (suc i) d lt c le =
    let end = rise 0 (suc i) d (omega arith) lt in
    let more = past-start xs (λ k l e kl ll. rise (suc k) (suc l) e (omega (arith, kl)) (omega (arith, ll))) i d (omega (arith, lt)) c le in
    id_at-after x xs c (omega (arith, end, le)) ∙ more

-- a span that leaves some columns has a square outside of them
pub outside-span : (xs : List Span) → HaveColumns xs → Rise xs → (i : ℕ) (d : Span) → i < length xs → (from to : ℕ)
    → ((get_or xs i d).start < from) ⊎ (to < (get_or xs i d).end)
    → (c : ℕ) × (id : Id) × (¬ ((from ≤ c) × (c < to))) × (id_at xs c ≡ Some id) × (id ≡ (get_or xs i d).square)
outside-span xs columns rise i d lt from to (inl west) =
    let s = get_or xs i d in
    let some = columns i d lt in (
      s.start,
      s.square,
      (λ h. omega (arith, h.0, west)),
      span-at xs i s.start d (past-start xs rise i d lt) lt s.start (omega arith) (omega arith) some,
      refl,
    )
outside-span xs columns rise i d lt from to (inr east) =
    let s = get_or xs i d in
    let some = columns i d lt in (
      s.end - 1,
      s.square,
      (λ h. omega (arith, h.1, east)),
      span-at xs i s.start d (past-start xs rise i d lt) lt (s.end - 1) (omega (arith, some)) (omega (arith, some)) (omega (arith, some)),
      refl,
    )

-- ---- the two columns beside the middle

module _ (content : Id → Tree) (s : Strip) (middle : ℕ) (half : middle * 2 ^ s.level ≡ half_plane) where
  abbrev side : ℕ
  side = 2 ^ s.level

  abbrev Outside : ℕ → Type 0
  Outside c = ¬ ((middle - 1 ≤ c) × (c < middle + 1))

  west-outside : (c x : ℕ) → c * side ≤ x → x + side < half_plane → Outside c
  west-outside c x from h (le, lt) =
      let most : side * middle ≤ side * (c + 1) = mul-le-mul_left side (omega (arith, le)) in
      let a = mul_comm side middle in
      let b = mul_comm side (c + 1) in
      let d = add-mul c 1 side in
      omega (arith, most, a, b, d, from, h, half)

  east-outside : (c x : ℕ) → x < c * side + side → half_plane + side ≤ x → Outside c
  east-outside c x before h (le, lt) =
      let most : side * c ≤ side * middle = mul-le-mul_left side (omega (arith, lt)) in
      let a = mul_comm side middle in
      let b = mul_comm side c in
      omega (arith, most, a, b, before, h, half)

  -- a cell is in one of the two columns
  inside-columns : (c i : ℕ) → i < side → half_plane ≤ c * side + i + side → c * side + i < half_plane + side → (middle - 1 ≤ c) × (c < middle + 1)
  inside-columns c i small west east = (first, second)
    where
      first : middle - 1 ≤ c
      first = elim (cases_lt c (middle - 1)) [
        | inl lt ↦
            let most : side * (c + 2) ≤ side * middle = mul-le-mul_left side (omega (arith, lt)) in
            let a = mul_comm side middle in
            let b = mul_comm side (c + 2) in
            let d = add-mul c 2 side in
            absurd (omega (arith, most, a, b, d, small, west, half))
        | inr le ↦ le
      ]

      second : c < middle + 1
      second = elim (cases_lt c (middle + 1)) [
        | inl lt ↦ lt
        | inr le ↦
            let most : side * (middle + 1) ≤ side * c = mul-le-mul_left side le in
            let a = mul_comm side (middle + 1) in
            let b = mul_comm side c in
            let d = add-mul middle 1 side in
            absurd (omega (arith, most, a, b, d, east, half))
      ]

  -- no cell is in a blank square
  none-in-blank : (x j : ℕ) → square_at content s.level s.spans.items (x / side) ≡ blank s.level → picture content (s ∷ []) x j ≡ 0
  none-in-blank x j e = by (nat_lt j side)
    where
      none : state_in_strip content s x j ≡ 0
      none = ap (λ t. state_at t (x % side) j) e ∙ state_at-blank s.level (x % side) j

      by : (b : Bool) → (if b then state_in_strip content s x j else 0) ≡ 0
      by true = none
      by false = refl

  -- where all other squares are blank every cell is beside the middle
  pub adjacent-when : ((c : ℕ) → Outside c → square_at content s.level s.spans.items c ≡ blank s.level) → AreAdjacent s.level (picture content (s ∷ []))
  adjacent-when out x j lx live = (west, east)
    where
      c : ℕ
      c = x / side

      whole : c * side + x % side ≡ x
      whole = div-add-mod' x side

      below : x % side < side
      below = mod_below x side (positive_power s.level)

      west : half_plane ≤ x + side
      west = elim (cases_lt (x + side) half_plane) [
        | inl lt ↦ absurd (live (none-in-blank x j (out c (west-outside c x (let w = whole in omega (arith, w)) lt))))
        | inr le ↦ le
      ]

      east : x < half_plane + side
      east = elim (cases_lt x (half_plane + side)) [
        | inl lt ↦ lt
        | inr le ↦
            absurd (live (none-in-blank x j (out c (east-outside c x (let w = whole in let b = below in omega (arith, w, b)) le))))
      ]

  -- and where a square elsewhere isn't blank, some cell is not
  module _ (knows : Id → Type 0) (full : (id : Id) → knows id → IsFull (content id)) (sound : IsSoundStrip knows content s) (low : s.level ≤ MAX_LEVEL) where
    pub wider-when : (c : ℕ) (id : Id) → Outside c → id_at s.spans.items c ≡ Some id → AreAdjacent s.level (picture content (s ∷ []))
        → content id ≡ blank s.level
    wider-when c id out at adjacent =
        blank_is (content id) (full id known.0) ((blank_by_cells (content id) (full id known.0)).1 cells) ∙ ap blank known.1
      where
        known : knows id × (depth (content id) ≡ s.level)
        known = sound.squares c id at

        within : c < 2 ^ (MAX_LEVEL - s.level)
        within = elim (cases_lt c (2 ^ (MAX_LEVEL - s.level))) [
          | inl lt ↦ lt
          | inr le ↦
              let none = sym at ∙ none_beyond s.spans.items (2 ^ (MAX_LEVEL - s.level)) c sound.within le in
              absurd cc
        ]

        cells : (i j : ℕ) → i < 2 ^ depth (content id) → j < 2 ^ depth (content id) → state_at (content id) i j ≡ 0
        cells i j li lj = zero_unless (state_at (content id) i j) none
          where
            deep : 2 ^ depth (content id) ≡ side
            deep = ap (λ n. 2 ^ n) known.1

            x : ℕ
            x = c * side + i

            small : i < side
            small = let d = deep in omega (arith, li, d)

            there : picture content (s ∷ []) x j ≡ state_at (content id) i j
            there =
                let row : nat_lt j side ≡ true = let d = deep in let l : j < side = omega (arith, lj, d) in grind arith in
                ap (λ b. if b then state_in_strip content s x j else 0) row
                ∙ (λ k. state_at (square_at content s.level s.spans.items (div-mul-add c side i small k)) (mod-mul-add c side i small k) j)
                ∙ ap (λ o. state_at (square_or_blank content s.level o) i j) at

            none : ¬ (state_at (content id) i j ≡ 0) → ⊥
            none live =
                let plane = in_plane s.level c low within in
                let one = add-mul c 1 side in
                let l = small in
                let b = adjacent x j (omega (arith, plane, one, l)) (λ e. live (sym there ∙ e)) in
                out (inside-columns c i small b.0 b.1)

-- ---- a strip that blank rows make higher

-- the same of a picture with the same cells
pub adjacent-same : (level : ℕ) (f g : ℕ → ℕ → ℕ) → ((i j : ℕ) → f i j ≡ g i j) → AreAdjacent level f → AreAdjacent level g
adjacent-same level f g same h i j li live = h i j li (λ e. live (sym (same i j) ∙ e))

-- and of a higher level
pub adjacent-more : (low high : ℕ) (f : ℕ → ℕ → ℕ) → low ≤ high → AreAdjacent low f → AreAdjacent high f
adjacent-more low high f le h i j li live =
    let b = h i j li live in
    let p = pow_mono {i = low} {j = high} le in
    (omega (arith, b.0, p), omega (arith, b.1, p))

-- where one level isn't enough, no level up to it is
pub wider-still : (f g : ℕ → ℕ → ℕ) → ((i j : ℕ) → f i j ≡ g i j) → (from level : ℕ) → ((m : ℕ) → from ≤ m → m < level → ¬ AreAdjacent m g)
    → ¬ AreAdjacent level f
    → (m : ℕ) → from ≤ m → m < suc level → ¬ AreAdjacent m g
wider-still f g same from level needed wider m low lt h =
    wider (adjacent-same level g f (λ i j. sym (same i j)) (adjacent-more m level g (omega (arith, lt)) h))

-- a square that the strip and a blank one need is one of the higher strip
pub wider-needs : (knows : Id → Type 0) (content : Id → Tree) → ((id : Id) → knows id → IsFull (content id)) → (last below : Strip)
    → below.level ≡ last.level → below.spans.items ≡ [] → IsSoundStrip knows content last → (from : ℕ) (g : ℕ → ℕ → ℕ)
    → ((i j : ℕ) → picture content (last ∷ []) i j ≡ g i j) → from ≤ last.level → last.level + 1 < MAX_LEVEL
    → ((m : ℕ) → from ≤ m → m < suc last.level → ¬ AreAdjacent m g) → (P : Tree → Type 0)
    → SomeColumn P (last.level + 1) (quad_at content last.level last.spans.items below.spans.items) → SomeWider P from g
wider-needs knows content full last below level none sound from g same low high needed P n = record {
  top = suc last.level;
  low = omega (arith, low);
  high = omega (arith, high);
  needed = needed;
  some = SomeSquare-same (omega arith) same
      (raised-needs knows content full last below level none sound (suc last.level) (omega arith) (omega (arith, high)) P n);
}

-- ---- the square about the middle

-- the columns of a level up to the middle
pub middle-half : (level : ℕ) → level < MAX_LEVEL → 2 ^ (MAX_LEVEL - 1 - level) * 2 ^ level ≡ half_plane
middle-half level high =
    let sum : MAX_LEVEL - 1 - level + level ≡ MAX_LEVEL - 1 = omega (arith, high) in
    sym (pow-add 2 (MAX_LEVEL - 1 - level) level) ∙ ap (λ n. 2 ^ n) sum

pub middle-some : (level : ℕ) → 1 ≤ 2 ^ (MAX_LEVEL - 1 - level)
middle-some level = let p = positive_power (MAX_LEVEL - 1 - level) in omega (arith, p)

-- each square of a strip is full
full-at : (knows : Id → Type 0) (content : Id → Tree) → ((id : Id) → knows id → IsFull (content id)) → (level : ℕ) (spans : List Span)
    → IsStrip knows content level spans → (c : ℕ) → IsFull (square_at content level spans c)
full-at knows content full level spans s c = by (id_at spans c) refl
  where
    by : (o : Option Id) → id_at spans c ≡ o → IsFull (square_at content level spans c)
    by None e = subst (λ o. IsFull (square_or_blank content level o)) (sym e) (full-blank level)
    by (Some id) e = subst (λ o. IsFull (square_or_blank content level o)) (sym e) (full id (s c id e).0)

module _ (content : Id → Tree) (s : Strip) (middle : ℕ) (half : middle * 2 ^ s.level ≡ half_plane) (knows : Id → Type 0)
    (full : (id : Id) → knows id → IsFull (content id)) (sound : IsSoundStrip knows content s) (some : 1 ≤ middle) where
  abbrev wide : ℕ
  wide = 2 ^ s.level

  abbrev at : ℕ → Tree
  at = square_at content s.level s.spans.items

  abbrev none : Tree
  none = blank s.level

  deep-none : 2 ^ depth none ≡ wide
  deep-none = ap (λ n. 2 ^ n) (depth-blank s.level)

  -- a cell of a square of the strip
  cell-in : (c x i j : ℕ) → x ≡ c * wide + i → i < wide → j < wide → state_at (at c) i j ≡ picture content (s ∷ []) x j
  cell-in c x i j e li lj =
      let row : nat_lt j wide ≡ true = grind (arith, lj) in
      let q : x / wide ≡ c = ap (λ z. z / wide) e ∙ div-mul-add c wide i li in
      let r : x % wide ≡ i = ap (λ z. z % wide) e ∙ mod-mul-add c wide i li in
      sym (ap (λ b. if b then state_in_strip content s x j else 0) row ∙ (λ k. state_at (at (q k)) (r k) j))

  abbrev both : Tree
  both = quad none none (at (middle - 1)) (at middle)

  north : (i j : ℕ) → i < 2 * wide → j < wide → state_at both i j ≡ 0
  north i j li lj = elim (cases_lt i wide) [
    | inl lt ↦
        let d = deep-none in
        let p : nat_lt j (2 ^ depth none) ≡ true = ap (nat_lt j) d ∙ (grind (arith, lj)) in
        let q : nat_lt i (2 ^ depth none) ≡ true = ap (nat_lt i) d ∙ (grind (arith, lt)) in
        at_nw none none (at (middle - 1)) (at middle) i j p q ∙ state_at-blank s.level i j
    | inr le ↦
        let d = deep-none in
        let p : nat_lt j (2 ^ depth none) ≡ true = ap (nat_lt j) d ∙ (grind (arith, lj)) in
        let q : nat_lt i (2 ^ depth none) ≡ false = ap (nat_lt i) d ∙ (grind (arith, le)) in
        at_ne none none (at (middle - 1)) (at middle) i j p q ∙ state_at-blank s.level (i - 2 ^ depth none) j
  ]

  south : (i j : ℕ) → i < 2 * wide → j < wide → state_at both i (wide + j) ≡ picture content (s ∷ []) (half_plane - wide + i) j
  south i j li lj =
      let d = deep-none in
      let p : nat_lt (wide + j) (2 ^ depth none) ≡ false = ap (nat_lt (wide + j)) d ∙ (grind arith) in
      let back : wide + j - 2 ^ depth none ≡ j = omega (arith, d) in
      let one = add-mul (middle - 1) 1 wide in
      let next : middle - 1 + 1 ≡ middle = omega (arith, some) in
      let whole : (middle - 1 + 1) * wide ≡ middle * wide = ap (λ n. n * wide) next in
      let h = half in
      elim (cases_lt i wide) [
        | inl lt ↦
            let q : nat_lt i (2 ^ depth none) ≡ true = ap (nat_lt i) d ∙ (grind (arith, lt)) in
            at_sw none none (at (middle - 1)) (at middle) i (wide + j) p q ∙ ap (state_at (at (middle - 1)) i) back
            ∙ cell-in (middle - 1) (half_plane - wide + i) i j (omega (arith, one, whole, h)) lt lj
        | inr le ↦
            let q : nat_lt i (2 ^ depth none) ≡ false = ap (nat_lt i) d ∙ (grind (arith, le)) in
            let right : i - 2 ^ depth none ≡ i - wide = omega (arith, d) in
            at_se none none (at (middle - 1)) (at middle) i (wide + j) p q ∙ (λ k. state_at (at middle) (right k) (back k))
            ∙ cell-in middle (half_plane - wide + i) (i - wide) j (omega (arith, one, whole, h, le)) (omega (arith, li, le)) lj
      ]

  pub about-middle : (t : Tree) → t ≡ both → IsAboutMiddle s.level (picture content (s ∷ [])) t
  about-middle t e = subst (IsAboutMiddle s.level (picture content (s ∷ []))) (sym e) (record {
    full =
        let dw = depth-square_at knows content s.level s.spans.items sound.squares (middle - 1) in
        let de = depth-square_at knows content s.level s.spans.items sound.squares middle in
        let db = depth-blank s.level in (
          full-blank s.level,
          full-blank s.level,
          full-at knows content full s.level s.spans.items sound.squares (middle - 1),
          full-at knows content full s.level s.spans.items sound.squares middle,
          refl,
          dw ∙ sym db,
          de ∙ sym db,
        );
    deep = ap suc (depth-blank s.level);
    northern = north;
    southern = south;
  })

-- ---- the northern half

-- the first strip and the others
pub first-is : (xs : List Strip) (x : Strip) → slice_get xs 0 ≡ Some x → xs ≡ x ∷ drop 1 xs
first-is [] x e = absurd cc
first-is (y ∷ ys) x e = let same : y ≡ x = same_Some _ _ e in ap (λ z. z ∷ ys) same

pub first-sound : (knows : Id → Type 0) (content : Id → Tree) (xs : List Strip) (x : Strip) → slice_get xs 0 ≡ Some x → All (IsSoundStrip knows content) xs
    → (xs ≡ x ∷ drop 1 xs) × IsSoundStrip knows content x
first-sound knows content xs x e sound =
    let is = first-is xs x e in (is, subst (All (IsSoundStrip knows content)) is sound 0 x (omega arith))

pub no-strips : (xs : List Strip) → slice_get xs 0 ≡ None → 2 ^ (MAX_LEVEL - 1) ≤ height xs → ⊥
no-strips [] e tall = omega (arith, tall)
no-strips (x ∷ xs) e tall = cc

-- the first of strips with the rows of the northern half and less than the plane has its level
pub half-first : (xs : List Strip) (x : Strip) (rest : List Strip) → xs ≡ x ∷ rest → AreFalling xs → height xs < 2 ^ MAX_LEVEL
    → 2 ^ (MAX_LEVEL - 1) ≤ height xs → x.level ≡ MAX_LEVEL - 1
half-first xs x rest e fall space tall = by (cases_lt x.level (MAX_LEVEL - 1)) (cases_lt (MAX_LEVEL - 1) x.level)
  where
    falling : AreFalling (x ∷ rest)
    falling = subst AreFalling e fall

    most : height xs ≡ 2 ^ x.level + height rest
    most = ap height e

    below : height rest < 2 ^ x.level
    below = height-falling rest x.level (λ i j d ij jl. falling (suc i) (suc j) d (omega (arith, ij)) (omega (arith, jl)))
        (λ k d lt. falling 0 (suc k) d (omega arith) (omega (arith, lt)))

    by : (x.level < MAX_LEVEL - 1) ⊎ (MAX_LEVEL - 1 ≤ x.level) → (MAX_LEVEL - 1 < x.level) ⊎ (x.level ≤ MAX_LEVEL - 1) → x.level ≡ MAX_LEVEL - 1
    by (inl lt) b =
        let p = pow_mono {i = suc x.level} {j = MAX_LEVEL - 1} lt in
        let t = twice x.level in
        let m = most in
        let r = below in
        absurd (omega (arith, p, t, m, r, tall))
    by (inr le) (inl gt) =
        let p = pow_mono {i = MAX_LEVEL} {j = x.level} (omega (arith, gt)) in
        let m = most in
        absurd (omega (arith, p, m, space))
    by (inr le) (inr ge) = omega (arith, le, ge)

-- a square of a strip without cells is blank
pub blank-when : (knows : Id → Type 0) (content : Id → Tree) → ((id : Id) → knows id → IsFull (content id)) → (s : Strip) → IsSoundStrip knows content s
    → s.level ≤ MAX_LEVEL → ((x j : ℕ) → x < 2 ^ MAX_LEVEL → j < 2 ^ s.level → state_in_strip content s x j ≡ 0) → (c : ℕ) (id : Id)
    → id_at s.spans.items c ≡ Some id → content id ≡ blank s.level
blank-when knows content full s sound low none c id at =
    blank_is (content id) (full id known.0) ((blank_by_cells (content id) (full id known.0)).1 cells) ∙ ap blank known.1
  where
    known : knows id × (depth (content id) ≡ s.level)
    known = sound.squares c id at

    within : c < 2 ^ (MAX_LEVEL - s.level)
    within = elim (cases_lt c (2 ^ (MAX_LEVEL - s.level))) [
      | inl lt ↦ lt
      | inr le ↦
          let gone = sym at ∙ none_beyond s.spans.items (2 ^ (MAX_LEVEL - s.level)) c sound.within le in
          absurd cc
    ]

    cells : (i j : ℕ) → i < 2 ^ depth (content id) → j < 2 ^ depth (content id) → state_at (content id) i j ≡ 0
    cells i j li lj =
        let deep : 2 ^ depth (content id) ≡ 2 ^ s.level = ap (λ n. 2 ^ n) known.1 in
        let small : i < 2 ^ s.level = omega (arith, li, deep) in
        let plane = in_plane s.level c low within in
        let one = add-mul c 1 (2 ^ s.level) in
        sym (ap (λ o. state_at (square_or_blank content s.level o) i j) at)
        ∙ sym (λ k. state_at (square_at content s.level s.spans.items (div-mul-add c (2 ^ s.level) i small k)) (mod-mul-add c (2 ^ s.level) i small k) j)
        ∙ none (c * 2 ^ s.level + i) j (omega (arith, plane, one, small)) (omega (arith, lj, deep))

-- strips whose first rows are blank
pub first-blank : (content : Id → Tree) (xs : List Strip) (x : Strip) (rest : List Strip) (rows : ℕ) → xs ≡ x ∷ rest → 2 ^ x.level ≤ rows
    → IsBlankTo rows (picture content xs) → (i j : ℕ) → i < 2 ^ MAX_LEVEL → j < 2 ^ x.level → state_in_strip content x i j ≡ 0
first-blank content xs x rest rows e tall none i j li lj =
    let row : nat_lt j (2 ^ x.level) ≡ true = grind (arith, lj) in
    sym (ap (λ b. if b then state_in_strip content x i j else picture content rest i (j - 2 ^ x.level)) row)
    ∙ sym (ap (λ z. picture content z i j) e) ∙ none i j li (omega (arith, lj, tall))

-- a strip of blank squares has no cell
pub blank-strip : (content : Id → Tree) (s : Strip) → ((c : ℕ) → square_at content s.level s.spans.items c ≡ blank s.level) → (i j : ℕ)
    → state_in_strip content s i j ≡ 0
blank-strip content s all i j = ap (λ t. state_at t (i % 2 ^ s.level) j) (all (i / 2 ^ s.level)) ∙ state_at-blank s.level (i % 2 ^ s.level) j
