-- Facts about a pile of the rows from the middle of the plane on.
use Rattle.std.proofs.Common.{◌≡◌, ℕ, ◌+◌, ◌-◌, ◌*◌, ◌^◌, ◌≤◌, ◌<◌, inl, inr, true, nat_lt, List, [], ◌∷◌, ◌++◌, All, length, Option, Some, None, IsSome, option_to_list, length-append, sym, ◌∙◌, ap, subst, arith, if◌then◌else◌, pow-add}
use Rattle.std.proofs.lemmas.List.{nil_from_length}
use Rattle.std.proofs.lemmas.Bool.{cases_lt}
use Rattle.std.proofs.Math.Pow.{pow_mono}
use Rattle.life_base.specs.declared.cell.TheConstants.{MAX_LEVEL}
use Rattle.life_base.specs.Tree.{Tree}
use Rattle.life_quad.specs.declared.id.Id.{Id}
use Rattle.life_strip.specs.declared.pile.Pile.{Pile}
use Rattle.life_strip.specs.declared.spans.Strip.{Strip}
use Rattle.life_strip.specs.Given.{half_plane}
use Rattle.life_strip.specs.Middle.{AreAdjacent, IsAboutMiddle, IsBlankTo, IsLeastAdjacent, IsMiddleSquare, SomeOfMiddle, SomeWider}
use Rattle.life_strip.specs.Needed.{SomeSquare}
use Rattle.life_strip.specs.Picture.{height, picture, AreFalling, IsLowest, IsSoundStrip}
use Rattle.life_strip.specs.Pile.{IsPile, pile_height, pile_state}
use Rattle.life_strip.specs.Row.{rows_state, state_with_rows}
use Rattle.life_strip.proofs.MiddleLemmas.{adjacent-same}
use Rattle.life_strip.proofs.NeededLemmas.{height-divided, SomeSquare-same}
use Rattle.life_strip.proofs.PictureLemmas.{one_strip_of}
use Rattle.life_strip.proofs.RowLemmas.{with-none}

-- the strips of a pile with the rows of the northern half have them
pub pile-blank : (content : Id → Tree) (pile : Pile) → IsLowest 2 pile.strips.items → length pile.band.items ≤ 3 → 2 ^ (MAX_LEVEL - 1) ≤ pile_height pile
    → IsBlankTo (2 ^ (MAX_LEVEL - 1)) (pile_state content pile)
    → (2 ^ (MAX_LEVEL - 1) ≤ height pile.strips.items) × IsBlankTo (2 ^ (MAX_LEVEL - 1)) (picture content pile.strips.items)
pile-blank content pile low few tall none = (high, blank)
  where
    high : 2 ^ (MAX_LEVEL - 1) ≤ height pile.strips.items
    high = let d = height-divided pile.strips.items 2 low in let g = d.1 in omega (arith, g, few, tall)

    blank : IsBlankTo (2 ^ (MAX_LEVEL - 1)) (picture content pile.strips.items)
    blank column row li lj =
        let h = high in
        let within : row < height pile.strips.items = omega (arith, lj, h) in
        let over : nat_lt row (height pile.strips.items) ≡ true = grind (arith, within) in
        sym (ap (λ b. if b then picture content pile.strips.items column row
        else rows_state content pile.band.items column (row - height pile.strips.items)) over)
        ∙ none column row li lj

-- the last of one strip
pub only-pop : (xs ys : List Strip) (o : Option Strip) (s : Strip) → xs ≡ ys ++ option_to_list o → (0 < length xs → IsSome o) → xs ≡ s ∷ [] → o ≡ Some s
only-pop xs ys None s items some one =
    let n = ap length one in
    let none : IsSome {T = Strip} None = some (omega (arith, n)) in
    absurd cc
only-pop xs [] (Some t) s items some one = let same : t ∷ [] ≡ s ∷ [] = sym items ∙ one in let e : t ≡ s = cc in ap Some e
only-pop xs (y ∷ ys) (Some t) s items some one =
    let n = ap length one in
    let m = ap length items in
    let l = length-append ys (t ∷ []) in
    absurd (omega (arith, n, m, l))

-- a pile with the rows of a square has one strip
pub one-in-pile : (pile : Pile) (level : ℕ) → 2 ≤ level → IsLowest 2 pile.strips.items → length pile.band.items ≤ 3 → AreFalling pile.strips.items
    → pile_height pile ≡ 2 ^ level → (pile.band.items ≡ []) × ((s : Strip) × (pile.strips.items ≡ s ∷ []) × (s.level ≡ level))
one-in-pile pile level two low few falling all = (none, one_strip_of level pile.strips.items falling tall)
  where
    d : (r : ℕ) × (height pile.strips.items ≡ r * 2 ^ 2)
    d = height-divided pile.strips.items 2 low

    four : 2 ^ level ≡ 2 ^ (level - 2) * 2 ^ 2
    four = let sum : level ≡ level - 2 + 2 = omega (arith, two) in ap (λ n. 2 ^ n) sum ∙ pow-add 2 (level - 2) 2

    no_rows : length pile.band.items ≡ 0
    no_rows = let e = d.1 in let f = four in omega (arith, e, f, few, all)

    none : pile.band.items ≡ []
    none = nil_from_length pile.band.items no_rows

    tall : height pile.strips.items ≡ 2 ^ level
    tall = let n = no_rows in omega (arith, n, all)

-- the same square about the middle, of a picture with the same cells
pub about-same : (level : ℕ) (f g : ℕ → ℕ → ℕ) (t : Tree) → ((i j : ℕ) → f i j ≡ g i j) → IsAboutMiddle level f t → IsAboutMiddle level g t
about-same level f g t same h = record {
  full = h.full;
  deep = h.deep;
  northern = h.northern;
  southern = λ i j li lj. h.southern i j li lj ∙ same (half_plane - 2 ^ level + i) j;
}

-- ---- what a pile of the rows from the middle on needs

-- the squares of its rows and of the rows below them that fill up the least level
pub end-of-middle : (P : Tree → Type 0) (level rows : ℕ) (f : ℕ → ℕ → ℕ) → 2 ≤ level → level < MAX_LEVEL
    → ((m : ℕ) → 2 ≤ m → m < level → ¬ (rows < 2 ^ m)) → SomeSquare P (2 ^ level) f → SomeOfMiddle P rows f
end-of-middle P level rows f low high least s = record {
  level = level;
  low = low;
  high = high;
  least = λ m two lt within adjacent. least m two lt within;
  some = inl s;
}

-- the least level by rows, and from there on by columns
pub least-adjacent : (level top rows : ℕ) (f g : ℕ → ℕ → ℕ) → ((m : ℕ) → 2 ≤ m → m < level → ¬ (rows < 2 ^ m)) → ((i j : ℕ) → f i j ≡ g i j)
    → ((m : ℕ) → level ≤ m → m < top → ¬ AreAdjacent m f) → IsLeastAdjacent top rows g
least-adjacent level top rows f g least same needed m two lt within adjacent = elim (cases_lt m level) [
  | inl below ↦ least m two below within
  | inr above ↦ needed m above lt (adjacent-same m g f (λ i j. sym (same i j)) adjacent)
]

-- those of higher strips
pub wider-of-middle : (P : Tree → Type 0) (level rows : ℕ) (f g : ℕ → ℕ → ℕ) → 2 ≤ level → ((m : ℕ) → 2 ≤ m → m < level → ¬ (rows < 2 ^ m))
    → ((i j : ℕ) → f i j ≡ g i j) → SomeWider P level f → SomeOfMiddle P rows g
wider-of-middle P level rows f g low least same s = record {
  level = s.top;
  low = let l = s.low in omega (arith, low, l);
  high = s.high;
  least = least-adjacent level s.top rows f g least same s.needed;
  some = inl (SomeSquare-same (omega arith) same s.some);
}

-- the square about the middle
pub middle-of : (level top rows : ℕ) (f g : ℕ → ℕ → ℕ) (t : Tree) → 2 ≤ level → level ≤ top → top < MAX_LEVEL → rows < 2 ^ level
    → ((m : ℕ) → 2 ≤ m → m < level → ¬ (rows < 2 ^ m)) → ((i j : ℕ) → f i j ≡ g i j) → AreAdjacent top f
    → ((m : ℕ) → level ≤ m → m < top → ¬ AreAdjacent m f) → IsAboutMiddle top g t → IsMiddleSquare rows g t
middle-of level top rows f g t low le high within least same adjacent needed square = record {
  level = top;
  low = omega (arith, low, le);
  high = high;
  enough = let p = pow_mono {i = level} {j = top} le in omega (arith, p, within);
  adjacent = adjacent-same top f g same adjacent;
  least = least-adjacent level top rows f g least same needed;
  square = square;
}

pub square-of-middle : (P : Tree → Type 0) (rows : ℕ) (f : ℕ → ℕ → ℕ) (t : Tree) → IsMiddleSquare rows f t → P t → SomeOfMiddle P rows f
square-of-middle P rows f t is p =
    record { level = is.level; low = is.low; high = is.high; least = is.least; some = inr (t, is, p) }

-- the strip that a pile with the rows of a square has
pub record IsStripOf (knows : Id → Type 0) (content : Id → Tree) (level : ℕ) (f : ℕ → ℕ → ℕ) (s : Strip) : Type 0 where
  pub is_level : s.level ≡ level
  pub sound : IsSoundStrip knows content s
  pub cells : (i j : ℕ) → picture content (s ∷ []) i j ≡ f i j

pub strip-of : (knows : Id → Type 0) (content : Id → Tree) (pile : Pile) (level : ℕ) (f : ℕ → ℕ → ℕ) → 2 ≤ level → IsPile knows content pile
    → pile_height pile ≡ 2 ^ level → ((i j : ℕ) → pile_state content pile i j ≡ f i j) → (s : Strip)
    → ((z : Strip) → pile.strips.items ≡ z ∷ [] → s ≡ z) → IsStripOf knows content level f s
strip-of knows content pile level f two is tall cells s only =
    let one = one-in-pile pile level two is.lowest is.few is.strips.falling tall in
    let z = one.1.0 in
    let same : s ≡ z = only z one.1.1 in
    record {
      is_level = ap (λ (t : Strip). t.level) same ∙ one.1.2;
      sound = subst (IsSoundStrip knows content) (sym same)
          (subst (All (IsSoundStrip knows content)) one.1.1 is.strips.sound 0 z (omega arith));
      cells = λ i j. ap (λ t. picture content (t ∷ []) i j) same ∙ sym (ap (λ t. picture content t i j) one.1.1)
          ∙ sym (with-none content pile.strips.items i j) ∙ ap (λ t. state_with_rows content pile.strips.items t i j) (sym one.0) ∙ cells i j;
    }
