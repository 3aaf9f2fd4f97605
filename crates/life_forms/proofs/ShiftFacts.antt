-- Shifts, least boxes and moved forms.
use Rattle.std.proofs.Common.{◌≡◌, ◌≢◌, ◌⊎◌, inl, inr, ℕ, zero, suc, ◌<◌, ◌≤◌, ◌^◌, Bool, true, false, ◌||◌, List, refl, sym, ap, ap₂, ◌∙◌, subst, subst₂, ℤ, pos, negsuc, neg_ℤ, ◌+ℤ◌, ◌≤ℤ◌, ◌<ℤ◌, arith, true≢false}
use Rattle.std.proofs.lemmas.Bool.{cases_Bool}
use Rattle.std.proofs.lemmas.Int.{ints, by_lt_z}
use Rattle.life_pattern.specs.Universe.{Universe, IsSame, IsBlankOutside, IsWithin, corner}
use Rattle.life_base.specs.declared.bounds.Bounds.{Bounds}
use Rattle.life_base.specs.declared.rule.Rule.{Rule}
use Rattle.life_base.specs.Rules.{IsRule}
use Rattle.life_writer.specs.Texts.{IsBoundingBox}
use Rattle.life_mc.specs.Macrocell.{largest_state}
use Rattle.life_forms.specs.Forms.{SeparatesPatterns, IsShift, plane_end, IsInPlace, at_zero, at_edge, IsMovedForm, IsMoved}
use Rattle.life_forms.specs.Laws.{MovedFormsExist, MovedFormsAreOnPlane, MovedFormsTellShifts, MovedFormsAreFixed, MovedTextsTellShifts}
use Rattle.life_base.proofs.Basics.{plus_zero, zero_unless}

-- ---- the same

pub same-refl : (u : Universe) → IsSame u u
same-refl u = record { rule = refl; generation = refl; cells = λ x y. refl }

-- ---- shifts

pub there-and-back : (x a : ℤ) → (x +ℤ neg_ℤ a) +ℤ a ≡ x
there-and-back x a = omega (arith, ints)

plus-plus : (x a b : ℤ) → x +ℤ (a +ℤ b) ≡ (x +ℤ a) +ℤ b
plus-plus x a b = omega (arith, ints)

-- a shift by nothing
unfoldable pub still : (u v : Universe) → IsSame u v → IsShift u v
still u v s = record {
  rule = s.rule;
  generation = s.generation;
  columns = pos 0;
  rows = pos 0;
  cells = λ x y. ap₂ v.cell (plus_zero x) (plus_zero y) ∙ sym (s.cells x y);
}

unfoldable pub shift-sym : (u v : Universe) → IsShift u v → IsShift v u
shift-sym u v s = record {
  rule = sym s.rule;
  generation = sym s.generation;
  columns = neg_ℤ s.columns;
  rows = neg_ℤ s.rows;
  cells = λ x y. sym (s.cells _ _) ∙ ap₂ v.cell (there-and-back x s.columns) (there-and-back y s.rows);
}

pub shift-trans : (u v w : Universe) → IsShift u v → IsShift v w → IsShift u w
shift-trans u v w s t = record {
  rule = s.rule ∙ t.rule;
  generation = s.generation ∙ t.generation;
  columns = s.columns +ℤ t.columns;
  rows = s.rows +ℤ t.rows;
  cells = λ x y. ap₂ w.cell (plus-plus x s.columns t.columns) (plus-plus y s.rows t.rows) ∙ t.cells _ _ ∙ s.cells x y;
}

-- ---- boxes

-- a box so many columns further east and rows further south
abbrev pub moved_box : Bounds → ℤ → ℤ → Bounds
moved_box box a b = record { left = box.left +ℤ a; top = box.top +ℤ b; right = box.right +ℤ a; bottom = box.bottom +ℤ b }

moved-inside : (box : Bounds) (a b x y : ℤ)
    → (box.left ≤ℤ (x +ℤ neg_ℤ a)) × ((x +ℤ neg_ℤ a) ≤ℤ box.right) × (box.top ≤ℤ (y +ℤ neg_ℤ b)) × ((y +ℤ neg_ℤ b) ≤ℤ box.bottom)
    → ((box.left +ℤ a) ≤ℤ x) × (x ≤ℤ (box.right +ℤ a)) × ((box.top +ℤ b) ≤ℤ y) × (y ≤ℤ (box.bottom +ℤ b))
moved-inside box a b x y (l, r, t, o) = (omega (arith, ints), omega (arith, ints), omega (arith, ints), omega (arith, ints))

-- the box of a shift
pub box-shifted : (u v : Universe) (s : IsShift u v) (box : Bounds) → IsBoundingBox u.cell box → IsBoundingBox v.cell (moved_box box s.columns s.rows)
box-shifted u v s box least = record {
  inside = λ x y some. moved-inside box s.columns s.rows x y
      (least.inside _ _ (λ none. some (sym (ap₂ v.cell (there-and-back x s.columns) (there-and-back y s.rows)) ∙ s.cells _ _ ∙ none)));
  at_left = (least.at_left.0 +ℤ s.rows, λ none. least.at_left.1 (sym (s.cells _ _) ∙ none));
  at_right = (least.at_right.0 +ℤ s.rows, λ none. least.at_right.1 (sym (s.cells _ _) ∙ none));
  at_top = (least.at_top.0 +ℤ s.columns, λ none. least.at_top.1 (sym (s.cells _ _) ∙ none));
  at_bottom = (least.at_bottom.0 +ℤ s.columns, λ none. least.at_bottom.1 (sym (s.cells _ _) ∙ none));
}

-- two least boxes have the same sides
pub record HaveSameSides (a b : Bounds) : Type 0 where
  pub left : a.left ≡ b.left
  pub top : a.top ≡ b.top
  pub right : a.right ≡ b.right
  pub bottom : a.bottom ≡ b.bottom

both-ways : (a b : ℤ) → a ≤ℤ b → b ≤ℤ a → a ≡ b
both-ways a b h k = omega (arith, ints)

pub one-box : (cell : ℤ → ℤ → ℕ) (a b : Bounds) → IsBoundingBox cell a → IsBoundingBox cell b → HaveSameSides a b
one-box cell a b m n = record {
  left = both-ways _ _ ((m.inside _ _ n.at_left.1).0) ((n.inside _ _ m.at_left.1).0);
  right = both-ways _ _ ((n.inside _ _ m.at_right.1).1) ((m.inside _ _ n.at_right.1).1);
  top = both-ways _ _ ((m.inside _ _ n.at_top.1).2) ((n.inside _ _ m.at_top.1).2);
  bottom = both-ways _ _ ((n.inside _ _ m.at_bottom.1).3) ((m.inside _ _ n.at_bottom.1).3);
}

-- ---- which patterns have one

-- whether a test holds at one of n numbers from c on
abbrev some_from : (ℤ → Bool) → ℤ → ℕ → Bool
some_from p c zero = false
some_from p c (suc n) = p c || some_from p (c +ℤ pos 1) n

-- c is one of n numbers from low on, and the test holds there
record IsOne (p : ℤ → Bool) (low : ℤ) (n : ℕ) (c : ℤ) : Type 0 where
  from : low ≤ℤ c
  to : c <ℤ (low +ℤ pos n)
  holds : p c ≡ true

-- it is the first one; and the last one
record IsFirst (p : ℤ → Bool) (low : ℤ) (n : ℕ) (c : ℤ) : Type 0 where
  one : IsOne p low n c
  before : (x : ℤ) → low ≤ℤ x → x <ℤ c → p x ≡ false

record IsLast (p : ℤ → Bool) (low : ℤ) (n : ℕ) (c : ℤ) : Type 0 where
  one : IsOne p low n c
  behind : (x : ℤ) → c <ℤ x → x <ℤ (low +ℤ pos n) → p x ≡ false

abbrev NoneFrom : (ℤ → Bool) → ℤ → ℕ → Type 0
NoneFrom p low n = (x : ℤ) → low ≤ℤ x → x <ℤ (low +ℤ pos n) → p x ≡ false

at-or-above : (low x : ℤ) → low ≤ℤ x → (x ≡ low) ⊎ ((low +ℤ pos 1) ≤ℤ x)
at-or-above low x h = grind (arith, ints)

one-here : (p : ℤ → Bool) (low : ℤ) (n : ℕ) → p low ≡ true → IsOne p low (suc n) low
one-here p low n e = record { from = omega (arith, ints); to = omega (arith, ints); holds = e }

one-more : (p : ℤ → Bool) (low : ℤ) (n : ℕ) (c : ℤ) → IsOne p (low +ℤ pos 1) n c → IsOne p low (suc n) c
one-more p low n c o = record { from = omega (arith, ints); to = omega (arith, ints); holds = o.holds }

none-more : (p : ℤ → Bool) (low : ℤ) (n : ℕ) → p low ≡ false → NoneFrom p (low +ℤ pos 1) n → NoneFrom p low (suc n)
none-more p low n e none x h k = elim (at-or-above low x h) [ inl here ↦ ap p here ∙ e | inr above ↦ none x above (omega (arith, ints)) ]

-- none of n numbers from low on passes the test, or one is such; and so it is with one number more at the beginning
abbrev Found : (ℤ → Bool) → (ℤ → ℕ → ℤ → Type 0) → ℤ → ℕ → Type 0
Found p Is low n = NoneFrom p low n ⊎ ((c : ℤ) × Is low n c)

abbrev Goes : (ℤ → Bool) → (ℤ → ℕ → ℤ → Type 0) → Type 0
Goes p Is = (low : ℤ) (n : ℕ) → (p low ≡ true) ⊎ (p low ≡ false) → Found p Is (low +ℤ pos 1) n → Found p Is low (suc n)

found-of : (p : ℤ → Bool) (Is : ℤ → ℕ → ℤ → Type 0) → Goes p Is → (low : ℤ) (n : ℕ) → Found p Is low n
found-of p Is go low zero = inl (λ x h k. absurd (omega (arith, ints)))
found-of p Is go low (suc n) = go low n (cases_Bool (p low)) (found-of p Is go (low +ℤ pos 1) n)

first-goes : (p : ℤ → Bool) → Goes p (IsFirst p)
first-goes p low n (inl e) rest = inr (low, record { one = one-here p low n e; before = λ x h k. absurd (omega (arith, ints)) })
first-goes p low n (inr e) (inl none) = inl (none-more p low n e none)
first-goes p low n (inr e) (inr (c, f)) =
    inr (
      c,
      record {
        one = one-more p low n c f.one;
        before = λ x h k. elim (at-or-above low x h) [ inl here ↦ ap p here ∙ e | inr above ↦ f.before x above k ];
      },
    )

last-goes : (p : ℤ → Bool) → Goes p (IsLast p)
last-goes p low n at (inr (c, f)) = inr (c, record { one = one-more p low n c f.one; behind = λ x h k. f.behind x h (omega (arith, ints)) })
last-goes p low n (inl e) (inl none) =
    inr (low, record { one = one-here p low n e; behind = λ x h k. none x (omega (arith, ints)) (omega (arith, ints)) })
last-goes p low n (inr e) (inl none) = inl (none-more p low n e none)

-- where some number of them passes the test, there is one
some-true : (q : ℤ → Bool) (low : ℤ) (n : ℕ) → some_from q low n ≡ true → (y : ℤ) × (q y ≡ true)
some-true q low zero e = absurd (true≢false (sym e))
some-true q low (suc n) e = elim (cases_Bool (q low)) [
  | inl here ↦ (low, here)
  | inr lacks ↦ some-true q (low +ℤ pos 1) n (sym (ap (λ b. b || some_from q (low +ℤ pos 1) n) lacks) ∙ e)
]

-- where one does, some does
some-has : (q : ℤ → Bool) (low : ℤ) (n : ℕ) (y : ℤ) → q y ≡ true → low ≤ℤ y → y <ℤ (low +ℤ pos n) → some_from q low n ≡ true
some-has q low zero y e h k = absurd (omega (arith, ints))
some-has q low (suc n) y e h k =
    elim (at-or-above low y h) [
      | inl here ↦ ap (λ b. b || some_from q (low +ℤ pos 1) n) (sym (ap q here) ∙ e)
      | inr above ↦ elim (cases_Bool (q low)) [
        | inl has ↦ ap (λ b. b || some_from q (low +ℤ pos 1) n) has
        | inr lacks ↦ ap (λ b. b || some_from q (low +ℤ pos 1) n) lacks ∙ some-has q (low +ℤ pos 1) n y e above (omega (arith, ints))
      ]
    ]

-- whether a cell has a state
abbrev lives : ℕ → Bool
lives zero = false
lives (suc n) = true

lives-some : (n : ℕ) → lives n ≡ true → n ≢ 0
lives-some zero e = absurd (true≢false (sym e))
lives-some (suc n) e = λ none. absurd (omega (arith, none))

some-lives : (n : ℕ) → n ≢ 0 → lives n ≡ true
some-lives zero some = absurd (some refl)
some-lives (suc n) some = refl

none-lives : (n : ℕ) → lives n ≡ false → n ≡ 0
none-lives zero e = refl
none-lives (suc n) e = absurd (true≢false e)

le-or-lt : (a b : ℤ) → (a ≤ℤ b) ⊎ (b <ℤ a)
le-or-lt a b = by_lt_z b a (λ h. inr h) (λ h. inl h)

not-both : (a b : ℤ) → a ≤ℤ b → b <ℤ a → ⊥
not-both a b h k = omega (arith, ints)

-- a cell with a state lies on the plane
pub seen : (top : ℕ) (cell : ℤ → ℤ → ℕ) → IsBlankOutside top cell → (x y : ℤ) → cell x y ≢ 0 → IsWithin top x × IsWithin top y
seen top cell outside x y some =
    elim (le-or-lt (corner top) x) [
      | inr h ↦ absurd (some (outside x y (λ w. not-both _ _ w.0.0 h)))
      | inl a ↦ elim (le-or-lt (plane_end top) x) [
        | inl h ↦ absurd (some (outside x y (λ w. not-both _ _ h w.0.1)))
        | inr b ↦ elim (le-or-lt (corner top) y) [
          | inr h ↦ absurd (some (outside x y (λ w. not-both _ _ w.1.0 h)))
          | inl c ↦ elim (le-or-lt (plane_end top) y) [
            | inl h ↦ absurd (some (outside x y (λ w. not-both _ _ h w.1.1)))
            | inr d ↦ ((a, b), (c, d))
          ]
        ]
      ]
    ]

-- every cell of the plane has state 0
abbrev pub IsBlank : Universe → Type 0
IsBlank u = (x y : ℤ) → u.cell x y ≡ 0

abbrev column_lives : ℕ → (ℤ → ℤ → ℕ) → ℤ → Bool
column_lives top cell x = some_from (λ y. lives (cell x y)) (corner top) (2 ^ top)

abbrev row_lives : ℕ → (ℤ → ℤ → ℕ) → ℤ → Bool
row_lives top cell y = some_from (λ x. lives (cell x y)) (corner top) (2 ^ top)

column-has : (top : ℕ) (cell : ℤ → ℤ → ℕ) → IsBlankOutside top cell → (x y : ℤ) → cell x y ≢ 0 → column_lives top cell x ≡ true
column-has top cell outside x y some =
    let w = seen top cell outside x y some in
    some-has (λ z. lives (cell x z)) (corner top) (2 ^ top) y (some-lives _ some) w.1.0 w.1.1

row-has : (top : ℕ) (cell : ℤ → ℤ → ℕ) → IsBlankOutside top cell → (x y : ℤ) → cell x y ≢ 0 → row_lives top cell y ≡ true
row-has top cell outside x y some =
    let w = seen top cell outside x y some in
    some-has (λ z. lives (cell z y)) (corner top) (2 ^ top) x (some-lives _ some) w.0.0 w.0.1

in-column : (top : ℕ) (cell : ℤ → ℤ → ℕ) (x : ℤ) → column_lives top cell x ≡ true → (y : ℤ) × (cell x y ≢ 0)
in-column top cell x e =
    let found = some-true (λ z. lives (cell x z)) (corner top) (2 ^ top) e in
    (found.0, lives-some _ found.1)

in-row : (top : ℕ) (cell : ℤ → ℤ → ℕ) (y : ℤ) → row_lives top cell y ≡ true → (x : ℤ) × (cell x y ≢ 0)
in-row top cell y e =
    let found = some-true (λ z. lives (cell z y)) (corner top) (2 ^ top) e in
    (found.0, lives-some _ found.1)

not-before : (p : ℤ → Bool) (low : ℤ) (n : ℕ) (c : ℤ) → IsFirst p low n c → (x : ℤ) → p x ≡ true → low ≤ℤ x → c ≤ℤ x
not-before p low n c f x e h = elim (le-or-lt c x) [ inl k ↦ k | inr k ↦ absurd (true≢false (sym e ∙ f.before x h k)) ]

not-behind : (p : ℤ → Bool) (low : ℤ) (n : ℕ) (c : ℤ) → IsLast p low n c → (x : ℤ) → p x ≡ true → x <ℤ (low +ℤ pos n) → x ≤ℤ c
not-behind p low n c f x e h = elim (le-or-lt x c) [ inl k ↦ k | inr k ↦ absurd (true≢false (sym e ∙ f.behind x k h)) ]

abbrev HasBox : Universe → Type 0
HasBox u = (box : Bounds) × IsBoundingBox u.cell box

box-of : (top : ℕ) (u : Universe) (outside : IsBlankOutside top u.cell) (l r t b : ℤ)
    → IsFirst (column_lives top u.cell) (corner top) (2 ^ top) l → IsLast (column_lives top u.cell) (corner top) (2 ^ top) r
    → IsFirst (row_lives top u.cell) (corner top) (2 ^ top) t → IsLast (row_lives top u.cell) (corner top) (2 ^ top) b → HasBox u
box-of top u outside l r t b first last upper lower = (
  record { left = l; top = t; right = r; bottom = b },
  record {
    inside = λ x y some.
        let w = seen top u.cell outside x y some in
        let column = column-has top u.cell outside x y some in
        let row = row-has top u.cell outside x y some in (
          not-before _ _ _ _ first x column w.0.0,
          not-behind _ _ _ _ last x column w.0.1,
          not-before _ _ _ _ upper y row w.1.0,
          not-behind _ _ _ _ lower y row w.1.1,
        );
    at_left = in-column top u.cell l first.one.holds;
    at_right = in-column top u.cell r last.one.holds;
    at_top = in-row top u.cell t upper.one.holds;
    at_bottom = in-row top u.cell b lower.one.holds;
  },
)

-- where no column lives, all is blank
blank-by-columns : (top : ℕ) (u : Universe) → IsBlankOutside top u.cell → NoneFrom (column_lives top u.cell) (corner top) (2 ^ top) → IsBlank u
blank-by-columns top u outside none x y =
    elim (cases_Bool (lives (u.cell x y))) [
      | inr e ↦ none-lives _ e
      | inl e ↦
          let some = lives-some _ e in
          let w = seen top u.cell outside x y some in
          absurd (true≢false (sym (column-has top u.cell outside x y some) ∙ none x w.0.0 w.0.1))
    ]

box-or-blank : (top : ℕ) (u : Universe) → IsBlankOutside top u.cell
    → Found (column_lives top u.cell) (IsFirst (column_lives top u.cell)) (corner top) (2 ^ top)
    → Found (column_lives top u.cell) (IsLast (column_lives top u.cell)) (corner top) (2 ^ top)
    → Found (row_lives top u.cell) (IsFirst (row_lives top u.cell)) (corner top) (2 ^ top)
    → Found (row_lives top u.cell) (IsLast (row_lives top u.cell)) (corner top) (2 ^ top)
    → IsBlank u ⊎ HasBox u
box-or-blank top u outside (inl none) second third fourth = inl (blank-by-columns top u outside none)
box-or-blank top u outside (inr (l, first)) (inl none) third fourth = inl (blank-by-columns top u outside none)
box-or-blank top u outside (inr (l, first)) (inr (r, last)) (inl none) fourth =
    let found = in-column top u.cell l first.one.holds in
    let w = seen top u.cell outside l found.0 found.1 in
    absurd (true≢false (sym (row-has top u.cell outside l found.0 found.1) ∙ none found.0 w.1.0 w.1.1))
box-or-blank top u outside (inr (l, first)) (inr (r, last)) (inr (t, upper)) (inl none) =
    let found = in-column top u.cell l first.one.holds in
    let w = seen top u.cell outside l found.0 found.1 in
    absurd (true≢false (sym (row-has top u.cell outside l found.0 found.1) ∙ none found.0 w.1.0 w.1.1))
box-or-blank top u outside (inr (l, first)) (inr (r, last)) (inr (t, upper)) (inr (b, lower)) = inr (box-of top u outside l r t b first last upper lower)

-- a pattern of the plane is blank, or has a least box
pub has-box : (top : ℕ) (u : Universe) → IsBlankOutside top u.cell → IsBlank u ⊎ HasBox u
has-box top u outside =
    let column = column_lives top u.cell in
    let row = row_lives top u.cell in
    box-or-blank top u outside (found-of column (IsFirst column) (first-goes column) (corner top) (2 ^ top))
    (found-of column (IsLast column) (last-goes column) (corner top) (2 ^ top)) (found-of row (IsFirst row) (first-goes row) (corner top) (2 ^ top))
    (found-of row (IsLast row) (last-goes row) (corner top) (2 ^ top))

-- ---- places

corner-low : (top : ℕ) → corner top ≤ℤ pos 0
unfolding corner
corner-low zero = omega (arith, ints)
corner-low (suc k) = omega (arith, ints)

-- how far a side moves into its place
pub place-of : (top : ℕ) (low high : ℤ) → corner top ≤ℤ low → high <ℤ plane_end top → (a : ℤ) × IsInPlace top (low +ℤ a) (high +ℤ a)
place-of top low high h k =
    elim (le-or-lt (plane_end top) (high +ℤ neg_ℤ low)) [
      | inr fits ↦ (neg_ℤ low, at_zero (omega (arith, ints)) (omega (arith, ints)))
      | inl wide ↦ ((plane_end top +ℤ negsuc 0) +ℤ neg_ℤ high, at_edge (omega (arith, ints)) (omega (arith, ints)))
    ]

-- a side in its place lies on the plane, if it is no longer than the plane
in-place-within : (top : ℕ) (low high x : ℤ) → IsInPlace top low high → (corner top +ℤ (high +ℤ neg_ℤ low)) <ℤ plane_end top → low ≤ℤ x → x ≤ℤ high
    → IsWithin top x
in-place-within top low high x (at_zero e f) fits h k = let c = corner-low top in (omega (arith, ints), omega (arith, ints))
in-place-within top low high x (at_edge e f) fits h k = (omega (arith, ints), omega (arith, ints))

-- no other shift has its side in its place
in-one-place : (top : ℕ) (low high a : ℤ) → IsInPlace top low high → IsInPlace top (low +ℤ a) (high +ℤ a) → a ≡ pos 0
in-one-place top low high a (at_zero e f) (at_zero g h) = omega (arith, ints)
in-one-place top low high a (at_zero e f) (at_edge g h) = absurd (omega (arith, ints))
in-one-place top low high a (at_edge e f) (at_zero g h) = absurd (omega (arith, ints))
in-one-place top low high a (at_edge e f) (at_edge g h) = omega (arith, ints)

pub in-place-at : (top : ℕ) (a b c d : ℤ) → a ≡ c → b ≡ d → IsInPlace top a b → IsInPlace top c d
in-place-at top a b c d e f place = subst₂ (λ (x y : ℤ). IsInPlace top x y) e f place

-- ---- moved forms

-- the pattern, so many columns further east and rows further south
abbrev pub shifted : Universe → ℤ → ℤ → Universe
shifted u a b = record { rule = u.rule; generation = u.generation; cell = λ x y. u.cell (x +ℤ neg_ℤ a) (y +ℤ neg_ℤ b) }

pub forth-and-back : (x a : ℤ) → (x +ℤ a) +ℤ neg_ℤ a ≡ x
forth-and-back x a = omega (arith, ints)

unfoldable pub shift-of : (u : Universe) (a b : ℤ) → IsShift u (shifted u a b)
shift-of u a b = record {
  rule = refl;
  generation = refl;
  columns = a;
  rows = b;
  cells = λ x y. ap₂ u.cell (forth-and-back x a) (forth-and-back y b);
}

-- a box of the plane has its sides there
sides-within : (top : ℕ) (u : Universe) → IsBlankOutside top u.cell → (box : Bounds) → IsBoundingBox u.cell box
    → IsWithin top box.left × IsWithin top box.right × IsWithin top box.top × IsWithin top box.bottom
sides-within top u outside box least = (
  (seen top u.cell outside _ _ least.at_left.1).0,
  (seen top u.cell outside _ _ least.at_right.1).0,
  (seen top u.cell outside _ _ least.at_top.1).1,
  (seen top u.cell outside _ _ least.at_bottom.1).1,
)

moved-form-at : (top : ℕ) (u : Universe) (box : Bounds) → IsBoundingBox u.cell box → (a b : ℤ)
    → IsInPlace top (box.left +ℤ a) (box.right +ℤ a) → IsInPlace top (box.top +ℤ b) (box.bottom +ℤ b) → IsMoved top u (shifted u a b)
unfolding shift-of
moved-form-at top u box least a b columns rows = record {
  shift = shift-of u a b;
  form = λ other other_least.
      let one = one-box _ _ _ (box-shifted u (shifted u a b) (shift-of u a b) box least) other_least in
      (in-place-at top _ _ _ _ one.left one.right columns, in-place-at top _ _ _ _ one.top one.bottom rows);
}

pub moved-exists : (top : ℕ) (u : Universe) → IsBlankOutside top u.cell → IsBlank u ⊎ HasBox u → (v : Universe) × IsMoved top u v
moved-exists top u outside (inl blank) = (
  u,
  record {
    shift = still u u (same-refl u);
    form = λ box least. absurd (least.at_left.1 (blank _ _));
  },
)
moved-exists top u outside (inr (box, least)) =
    let sides = sides-within top u outside box least in
    let columns = place-of top box.left box.right sides.0.0 sides.1.1 in
    let rows = place-of top box.top box.bottom sides.2.0 sides.3.1 in
    (shifted u columns.0 rows.0, moved-form-at top u box least columns.0 rows.0 columns.1 rows.1)

pub moved-forms-exist : (top : ℕ) → MovedFormsExist top
moved-forms-exist top u plane = moved-exists top u plane.outside (has-box top u plane.outside)

-- ---- on the plane

blank-shift : (u v : Universe) → IsShift u v → IsBlank u → IsBlank v
blank-shift u v s blank x y = sym (ap₂ v.cell (there-and-back x s.columns) (there-and-back y s.rows)) ∙ s.cells _ _ ∙ blank _ _

width-fits : (top : ℕ) (low high a : ℤ) → IsWithin top low → IsWithin top high → (corner top +ℤ ((high +ℤ a) +ℤ neg_ℤ (low +ℤ a))) <ℤ plane_end top
width-fits top low high a (b, c) (d, e) = omega (arith, ints)

pub moved-seen : (top : ℕ) (u v : Universe) (moved : IsMoved top u v) → IsBlankOutside top u.cell → IsBlank u ⊎ HasBox u → (x y : ℤ) → v.cell x y ≢ 0
    → IsWithin top x × IsWithin top y
moved-seen top u v moved outside (inl blank) x y some = absurd (some (blank-shift u v moved.shift blank x y))
moved-seen top u v moved outside (inr (box, least)) x y some =
    let s = moved.shift in
    let there = box-shifted u v s box least in
    let place = moved.form _ there in
    let sides = sides-within top u outside box least in
    let inside = there.inside x y some in (
      in-place-within top _ _ x place.0 (width-fits top _ _ s.columns sides.0 sides.1) inside.0 inside.1,
      in-place-within top _ _ y place.1 (width-fits top _ _ s.rows sides.2 sides.3) inside.2 inside.3,
    )

same-limit : (a b : Rule) (m n : ℕ) → a ≡ b → m ≡ n → n ≤ largest_state a → m ≤ largest_state b
same-limit a b m n e f h = subst₂ (λ (r : Rule) (k : ℕ). k ≤ largest_state r) e (sym f) h

moved-outside : (top : ℕ) (u v : Universe) → IsBlankOutside top u.cell → IsMoved top u v → IsBlankOutside top v.cell
moved-outside top u v outside moved x y out = zero_unless _ (λ some. out (moved-seen top u v moved outside (has-box top u outside) x y some))

pub moved-on-plane : (top : ℕ) → MovedFormsAreOnPlane top
moved-on-plane top u v plane moved =
    let s = moved.shift in
    record {
      rule = subst IsRule s.rule plane.rule;
      generation = subst (λ (g : ℕ). g < 2 ^ 64) s.generation plane.generation;
      states = λ x y. same-limit _ _ _ _ s.rule (sym (ap₂ v.cell (there-and-back x s.columns) (there-and-back y s.rows)) ∙ s.cells _ _) (plane.states _ _);
      outside = moved-outside top u v plane.outside moved;
    }

-- ---- what moved forms tell

plus-nothing : (x a : ℤ) → a ≡ pos 0 → x ≡ x +ℤ a
plus-nothing x a e = omega (arith, ints)

-- two moved forms that are shifts of each other are the same
same-forms : (top : ℕ) (u v : Universe) → IsMovedForm top u → IsMovedForm top v → IsShift u v → IsBlank u ⊎ HasBox u → IsSame u v
same-forms top u v first second s (inl blank) = record {
  rule = s.rule;
  generation = s.generation;
  cells = λ x y. blank x y ∙ sym (blank-shift u v s blank x y);
}
same-forms top u v first second s (inr (box, least)) =
    let here = first box least in
    let there = second _ (box-shifted u v s box least) in
    let a = in-one-place top _ _ s.columns here.0 there.0 in
    let b = in-one-place top _ _ s.rows here.1 there.1 in
    record {
      rule = s.rule;
      generation = s.generation;
      cells = λ x y. sym (s.cells x y) ∙ sym (ap₂ v.cell (plus-nothing x s.columns a) (plus-nothing y s.rows b));
    }

-- forms of shifts are the same
pub forms-of-shifts : (top : ℕ) (u v x y : Universe) → IsBlankOutside top u.cell → IsMoved top u x → IsMoved top v y → IsShift u v → IsSame x y
forms-of-shifts top u v x y outside first second s =
    same-forms top x y first.form second.form (shift-trans x u y (shift-sym u x first.shift) (shift-trans u v y s second.shift))
    (has-box top x (moved-outside top u x outside first))

pub shift-of-forms : (top : ℕ) (u v x y : Universe) → IsMoved top u x → IsMoved top v y → IsSame x y → IsShift u v
shift-of-forms top u v x y first second same =
    shift-trans u x v first.shift (shift-trans x y v (still x y same) (shift-sym v y second.shift))

pub moved-tell : (top : ℕ) → MovedFormsTellShifts top
moved-tell top u v x y plane other first second = (shift-of-forms top u v x y first second, forms-of-shifts top u v x y plane.outside first second)

pub moved-fixed : (top : ℕ) → MovedFormsAreFixed top
moved-fixed top u v w plane first second =
    let there = moved-on-plane top u v plane first in
    same-forms top v w first.form second.form second.shift (has-box top v there.outside)

pub moved-texts : (top : ℕ) (text : Universe → List ℕ) → SeparatesPatterns top text → MovedTextsTellShifts top text
moved-texts top text tells u v x y plane other first second =
    let one = tells x y (moved-on-plane top u x plane first) (moved-on-plane top v y other second) in
    (λ e. shift-of-forms top u v x y first second (one.0 e), λ s. one.1 (forms-of-shifts top u v x y plane.outside first second s))
