-- Squares that a turn leaves, images of quarters, and images that are remembered.
use Rattle.std.proofs.Common.{◌≡◌, ℕ, zero, suc, ◌+◌, ◌*◌, ◌/◌, ◌%◌, ◌<◌, ◌^◌, Bool, true, false, true≢false, ◌&&◌, if◌then◌else◌, ◌⊎◌, Option, Some, None, inl, inr, refl, sym, ◌∙◌, ap, subst, arith, List, is_some}
use Rattle.std.proofs.lemmas.Bool.{and_parts, cases_lt}
use Rattle.std.specs.Prelude.{⊤}
use Rattle.life_base.specs.Tree.{Tree, point, quad, depth, blank, is_blank_tree, IsFull}
use Rattle.life_base.proofs.Squares.{blank_is}
use Rattle.life_quad.specs.Cells.{population}
use Rattle.life_quad.specs.Keeping.{KeepsSquares}
use Rattle.life_quad.specs.Moves.{AreQuarters}
use Rattle.life_quad.specs.Refused.{SomePart}
use Rattle.life_quad.specs.SmallLaws.{base_16_digits}
use Rattle.life_quad.specs.Store.{two, four}
use Rattle.life_quad.specs.declared.id.Id.{Id}
use Rattle.life_quad.specs.declared.moves.Quarters.{Quarters}
use Rattle.life_quad.specs.declared.turning.Turn.{Turn}
use Rattle.life_quad.specs.Turning.{AreImages, digit_in, turned_half, id_of_four, IsRememberedImage, one_of_four, side_of, turned_tree}

-- ---- squares that a turn leaves

one-of-same : (u v : Bool) (t : Tree) → one_of_four u v t t t t ≡ t
one-of-same false false t = refl
one-of-same true false t = refl
one-of-same false true t = refl
one-of-same true true t = refl

turned-blank : (turn : Turn) (k : ℕ) → turned_tree turn (blank k) ≡ blank k
turned-blank turn zero = refl
turned-blank turn (suc k) =
    let at = λ (u v : Bool). one-of-same u v (turned_tree turn (blank k)) ∙ turned-blank turn k in
    λ i. quad (at (side_of turn false false) (turned_half turn false false) i) (at (side_of turn true false) (turned_half turn true false) i)
    (at (side_of turn false true) (turned_half turn false true) i) (at (side_of turn true true) (turned_half turn true true) i)

pub blank-turned : (turn : Turn) (t : Tree) → IsFull t → is_blank_tree t ≡ true → t ≡ turned_tree turn t
blank-turned turn t full e = blank_is t full e ∙ sym (turned-blank turn (depth t)) ∙ ap (turned_tree turn) (sym (blank_is t full e))

-- ---- an image is of the square's level

one-depth : (u v : Bool) (a b c d : Tree) (k : ℕ) → depth a ≡ k → depth b ≡ k → depth c ≡ k → depth d ≡ k → depth (one_of_four u v a b c d) ≡ k
one-depth false false a b c d k p q r s = p
one-depth true false a b c d k p q r s = q
one-depth false true a b c d k p q r s = r
one-depth true true a b c d k p q r s = s

pub depth-turned : (turn : Turn) (t : Tree) → IsFull t → depth (turned_tree turn t) ≡ depth t
depth-turned turn (point s) full = refl
depth-turned turn (quad a b c d) full =
    ap suc (one-depth (side_of turn false false) (turned_half turn false false) _ _ _ _ (depth a) (depth-turned turn a full.0)
    (depth-turned turn b full.1 ∙ full.4) (depth-turned turn c full.2 ∙ full.5) (depth-turned turn d full.3 ∙ full.6))

-- ---- what an image has of its square

one-full : (u v : Bool) (a b c d : Tree) → IsFull a → IsFull b → IsFull c → IsFull d → IsFull (one_of_four u v a b c d)
one-full false false a b c d p q r s = p
one-full true false a b c d p q r s = q
one-full false true a b c d p q r s = r
one-full true true a b c d p q r s = s

pub full-turned : (turn : Turn) (t : Tree) → IsFull t → IsFull (turned_tree turn t)
full-turned turn (point s) full = full
full-turned turn (quad a b c d) full =
    let each = λ (u v : Bool). one-full u v (turned_tree turn a) (turned_tree turn b) (turned_tree turn c) (turned_tree turn d) (full-turned turn a full.0)
    (full-turned turn b full.1) (full-turned turn c full.2) (full-turned turn d full.3) in
    let deep = λ (u v : Bool). one-depth u v (turned_tree turn a) (turned_tree turn b) (turned_tree turn c) (turned_tree turn d) (depth a)
    (depth-turned turn a full.0) (depth-turned turn b full.1 ∙ full.4) (depth-turned turn c full.2 ∙ full.5) (depth-turned turn d full.3 ∙ full.6) in
    let first = sym (deep (side_of turn false false) (turned_half turn false false)) in (
      each (side_of turn false false) (turned_half turn false false),
      each (side_of turn true false) (turned_half turn true false),
      each (side_of turn false true) (turned_half turn false true),
      each (side_of turn true true) (turned_half turn true true),
      deep (side_of turn true false) (turned_half turn true false) ∙ first,
      deep (side_of turn false true) (turned_half turn false true) ∙ first,
      deep (side_of turn true true) (turned_half turn true true) ∙ first,
    )

-- the turn that takes images back
abbrev pub undo : Turn → Turn
undo turn = record {
  exchange = turn.exchange;
  columns = if turn.exchange then turn.rows else turn.columns;
  rows = if turn.exchange then turn.columns else turn.rows;
}

abbrev turn_by : Bool → Bool → Bool → Turn
turn_by exchange columns rows = record { exchange = exchange; columns = columns; rows = rows }

undone-by : (e c r : Bool) (t : Tree) → turned_tree (undo (turn_by e c r)) (turned_tree (turn_by e c r) t) ≡ t
undone-by e c r (point s) = refl
undone-by false false false (quad p q s u) =
    λ i. quad (undone-by false false false p i) (undone-by false false false q i) (undone-by false false false s i) (undone-by false false false u i)
undone-by false false true (quad p q s u) =
    λ i. quad (undone-by false false true p i) (undone-by false false true q i) (undone-by false false true s i) (undone-by false false true u i)
undone-by false true false (quad p q s u) =
    λ i. quad (undone-by false true false p i) (undone-by false true false q i) (undone-by false true false s i) (undone-by false true false u i)
undone-by false true true (quad p q s u) =
    λ i. quad (undone-by false true true p i) (undone-by false true true q i) (undone-by false true true s i) (undone-by false true true u i)
undone-by true false false (quad p q s u) =
    λ i. quad (undone-by true false false p i) (undone-by true false false q i) (undone-by true false false s i) (undone-by true false false u i)
undone-by true false true (quad p q s u) =
    λ i. quad (undone-by true false true p i) (undone-by true false true q i) (undone-by true false true s i) (undone-by true false true u i)
undone-by true true false (quad p q s u) =
    λ i. quad (undone-by true true false p i) (undone-by true true false q i) (undone-by true true false s i) (undone-by true true false u i)
undone-by true true true (quad p q s u) =
    λ i. quad (undone-by true true true p i) (undone-by true true true q i) (undone-by true true true s i) (undone-by true true true u i)

pub undone : (turn : Turn) (t : Tree) → turned_tree (undo turn) (turned_tree turn t) ≡ t
undone turn t = undone-by turn.exchange turn.columns turn.rows t

-- squares with one image are one
pub apart-turned : (turn : Turn) (s t : Tree) → turned_tree turn s ≡ turned_tree turn t → s ≡ t
apart-turned turn s t e = sym (undone turn s) ∙ ap (turned_tree (undo turn)) e ∙ undone turn t

one-blank : (u v : Bool) (a b c d : Tree) → is_blank_tree a ≡ true → is_blank_tree b ≡ true → is_blank_tree c ≡ true → is_blank_tree d ≡ true
    → is_blank_tree (one_of_four u v a b c d) ≡ true
one-blank false false a b c d p q r s = p
one-blank true false a b c d p q r s = q
one-blank false true a b c d p q r s = r
one-blank true true a b c d p q r s = s

pub four-true : (p q r s : Bool) → p ≡ true → q ≡ true → r ≡ true → s ≡ true → (p && q && r && s) ≡ true
four-true p q r s ep eq er es = rw (ep, eq, er, es)

blank-stays : (turn : Turn) (t : Tree) → is_blank_tree t ≡ true → is_blank_tree (turned_tree turn t) ≡ true
blank-stays turn (point s) e = e
blank-stays turn (quad a b c d) e =
    let three = and_parts _ _ e in
    let two = and_parts _ _ three.0 in
    let one = and_parts _ _ two.0 in
    let at = λ (u v : Bool). one-blank u v (turned_tree turn a) (turned_tree turn b) (turned_tree turn c) (turned_tree turn d) (blank-stays turn a one.0)
    (blank-stays turn b one.1) (blank-stays turn c two.1) (blank-stays turn d three.1) in
    four-true _ _ _ _ (at (side_of turn false false) (turned_half turn false false)) (at (side_of turn true false) (turned_half turn true false))
    (at (side_of turn false true) (turned_half turn false true)) (at (side_of turn true true) (turned_half turn true true))

same-answer : (a b : Bool) → (a ≡ true → b ≡ true) → (b ≡ true → a ≡ true) → a ≡ b
same-answer false false f g = refl
same-answer false true f g = g refl
same-answer true b f g = sym (f refl)

-- an image is blank exactly if its square is
pub blank-image : (turn : Turn) (t : Tree) → is_blank_tree (turned_tree turn t) ≡ is_blank_tree t
blank-image turn t =
    same-answer _ _ (λ e. subst (λ (s : Tree). is_blank_tree s ≡ true) (undone turn t) (blank-stays (undo turn) (turned_tree turn t) e)) (blank-stays turn t)

population-by : (e c r : Bool) (t : Tree) → population (turned_tree (turn_by e c r) t) ≡ population t
population-by e c r (point s) = refl
population-by false false false (quad p q s u) =
    omega (arith, population-by false false false p, population-by false false false q, population-by false false false s, population-by false false false u)
population-by false false true (quad p q s u) =
    omega (arith, population-by false false true p, population-by false false true q, population-by false false true s, population-by false false true u)
population-by false true false (quad p q s u) =
    omega (arith, population-by false true false p, population-by false true false q, population-by false true false s, population-by false true false u)
population-by false true true (quad p q s u) =
    omega (arith, population-by false true true p, population-by false true true q, population-by false true true s, population-by false true true u)
population-by true false false (quad p q s u) =
    omega (arith, population-by true false false p, population-by true false false q, population-by true false false s, population-by true false false u)
population-by true false true (quad p q s u) =
    omega (arith, population-by true false true p, population-by true false true q, population-by true false true s, population-by true false true u)
population-by true true false (quad p q s u) =
    omega (arith, population-by true true false p, population-by true true false q, population-by true true false s, population-by true true false u)
population-by true true true (quad p q s u) =
    omega (arith, population-by true true true p, population-by true true true q, population-by true true true s, population-by true true true u)

pub population-image : (turn : Turn) (t : Tree) → population (turned_tree turn t) ≡ population t
population-image turn t = population-by turn.exchange turn.columns turn.rows t

-- a part of an image is the image of a part
one-part : (P : Tree → Type 0) (u v : Bool) (a b c d : Tree) → SomePart P (one_of_four u v a b c d)
    → SomePart P a ⊎ SomePart P b ⊎ SomePart P c ⊎ SomePart P d
one-part P false false a b c d s = inl s
one-part P true false a b c d s = inr (inl s)
one-part P false true a b c d s = inr (inr (inl s))
one-part P true true a b c d s = inr (inr (inr s))

pub part-of-image : (turn : Turn) (P : Tree → Type 0) (t : Tree) → SomePart P (turned_tree turn t) → SomePart (λ s. P (turned_tree turn s)) t
part-of-image turn P (point s) p = absurd p
part-of-image turn P (quad a b c d) (inl p) = inl p
part-of-image turn P (quad a b c d) (inr rest) =
    let among = λ (u v : Bool) (s : SomePart P (one_of_four u v (turned_tree turn a) (turned_tree turn b) (turned_tree turn c) (turned_tree turn d))).
    elim (one-part P u v (turned_tree turn a) (turned_tree turn b) (turned_tree turn c) (turned_tree turn d) s)
    as (λ _. SomePart (λ s. P (turned_tree turn s)) (quad a b c d)) [
      | inl p ↦ inr (inl (part-of-image turn P a p))
      | inr (inl p) ↦ inr (inr (inl (part-of-image turn P b p)))
      | inr (inr (inl p)) ↦ inr (inr (inr (inl (part-of-image turn P c p))))
      | inr (inr (inr p)) ↦ inr (inr (inr (inr (part-of-image turn P d p))))
    ] in
    elim rest [
      | inl p ↦ among (side_of turn false false) (turned_half turn false false) p
      | inr (inl p) ↦ among (side_of turn true false) (turned_half turn true false) p
      | inr (inr (inl p)) ↦ among (side_of turn false true) (turned_half turn false true) p
      | inr (inr (inr p)) ↦ among (side_of turn true true) (turned_half turn true true) p
    ]

-- ---- small squares

abbrev AllBelow : ℕ → (ℕ → Type 0) → Type 0
AllBelow zero P = ⊤
AllBelow (suc n) P = P n × AllBelow n P

all-below : (n : ℕ) (P : ℕ → Type 0) → AllBelow n P → (d : ℕ) → d < n → P d
all-below zero P all d less = absurd (omega (arith, less))
all-below (suc n) P all d less =
    elim (cases_lt d n) [ inl low ↦ all-below n P all.1 d low | inr high ↦ (let last : n ≡ d = omega (arith, less, high) in subst P last all.0) ]

-- the turned squares of level 1, by their cells
abbrev pub quarters_by : Bool → Bool → Bool → ℕ
quarters_by false false false = 0xFEDCBA9876543210
quarters_by false false true = 0xFB73EA62D951C840
quarters_by false true false = 0xFDEC7564B9A83120
quarters_by false true true = 0xF7B3D591E6A2C480
quarters_by true false false = 0xFEBADC9876325410
quarters_by true false true = 0xFD75EC64B931A820
quarters_by true true false = 0xFBEA7362D9C85140
quarters_by true true true = 0xF7D5B391E6C4A280

abbrev IsTurnedQuarter : Bool → Bool → Bool → ℕ → Type 0
IsTurnedQuarter exchange columns rows d =
    two (quarters_by exchange columns rows / 2 ^ (4 * d) % 16) ≡ turned_tree (turn_by exchange columns rows) (two d)

sixteen : (exchange columns rows : Bool) → AllBelow 16 (IsTurnedQuarter exchange columns rows)
sixteen false false false = (refl, (refl, (refl, (refl, (refl, (refl, (refl, (refl, (refl, (refl, (refl, (refl, (refl, (refl, (refl, (refl, tt))))))))))))))))
sixteen false false true = (refl, (refl, (refl, (refl, (refl, (refl, (refl, (refl, (refl, (refl, (refl, (refl, (refl, (refl, (refl, (refl, tt))))))))))))))))
sixteen false true false = (refl, (refl, (refl, (refl, (refl, (refl, (refl, (refl, (refl, (refl, (refl, (refl, (refl, (refl, (refl, (refl, tt))))))))))))))))
sixteen false true true = (refl, (refl, (refl, (refl, (refl, (refl, (refl, (refl, (refl, (refl, (refl, (refl, (refl, (refl, (refl, (refl, tt))))))))))))))))
sixteen true false false = (refl, (refl, (refl, (refl, (refl, (refl, (refl, (refl, (refl, (refl, (refl, (refl, (refl, (refl, (refl, (refl, tt))))))))))))))))
sixteen true false true = (refl, (refl, (refl, (refl, (refl, (refl, (refl, (refl, (refl, (refl, (refl, (refl, (refl, (refl, (refl, (refl, tt))))))))))))))))
sixteen true true false = (refl, (refl, (refl, (refl, (refl, (refl, (refl, (refl, (refl, (refl, (refl, (refl, (refl, (refl, (refl, (refl, tt))))))))))))))))
sixteen true true true = (refl, (refl, (refl, (refl, (refl, (refl, (refl, (refl, (refl, (refl, (refl, (refl, (refl, (refl, (refl, (refl, tt))))))))))))))))

pub turned-quarters : (turn : Turn) (exchange columns rows : Bool) → turn.exchange ≡ exchange → turn.columns ≡ columns → turn.rows ≡ rows
    → (d : ℕ) → d < 16 → two (quarters_by exchange columns rows / 2 ^ (4 * d) % 16) ≡ turned_tree turn (two d)
turned-quarters turn exchange columns rows e f g d less =
    all-below 16 (IsTurnedQuarter exchange columns rows) (sixteen exchange columns rows) d less
    ∙ (λ i. turned_tree (turn_by (sym e i) (sym f i) (sym g i)) (two d))

pub digit-low : (east south : Bool) (cells : ℕ) → cells < 65536 → digit_in east south cells < 16
digit-low false false cells less = omega (arith, less)
digit-low true false cells less = omega arith
digit-low false true cells less = omega arith
digit-low true true cells less = omega arith

one-digit : (turn : Turn) (cells : ℕ) (u v : Bool) → turned_tree turn (two (digit_in u v cells))
    ≡ one_of_four u v (turned_tree turn (two (cells / 4096))) (turned_tree turn (two (cells / 256 % 16))) (turned_tree turn (two (cells / 16 % 16)))
    (turned_tree turn (two (cells % 16)))
one-digit turn cells false false = refl
one-digit turn cells true false = refl
one-digit turn cells false true = refl
one-digit turn cells true true = refl

-- four images of the quarters are the image
pub turned-four : (turn : Turn) (cells a b c d : ℕ) → a < 16 → b < 16 → c < 16 → d < 16
    → two a ≡ turned_tree turn (two (digit_in (side_of turn false false) (turned_half turn false false) cells))
    → two b ≡ turned_tree turn (two (digit_in (side_of turn true false) (turned_half turn true false) cells))
    → two c ≡ turned_tree turn (two (digit_in (side_of turn false true) (turned_half turn false true) cells))
    → two d ≡ turned_tree turn (two (digit_in (side_of turn true true) (turned_half turn true true) cells))
    → four (a * 4096 + b * 256 + c * 16 + d) ≡ turned_tree turn (four cells)
turned-four turn cells a b c d la lb lc ld ea eb ec ed =
    let digits = base_16_digits a b c d la lb lc ld in
    let p = ap two digits.0 ∙ ea ∙ one-digit turn cells _ _ in
    let q = ap two digits.1 ∙ eb ∙ one-digit turn cells _ _ in
    let r = ap two digits.2 ∙ ec ∙ one-digit turn cells _ _ in
    let s = ap two digits.3 ∙ ed ∙ one-digit turn cells _ _ in
    λ i. quad (p i) (q i) (r i) (s i)

-- ---- four images

quarter-turned : (turn : Turn) (from : Id → Tree) (q : Quarters) (u v : Bool)
    → turned_tree turn (from (id_of_four u v q))
    ≡ one_of_four u v (turned_tree turn (from q.nw)) (turned_tree turn (from q.ne)) (turned_tree turn (from q.sw)) (turned_tree turn (from q.se))
quarter-turned turn from q false false = refl
quarter-turned turn from q true false = refl
quarter-turned turn from q false true = refl
quarter-turned turn from q true true = refl

-- a square by its quarters
module _ (turn : Turn) (from : Id → Tree) (q : Quarters) (t : Tree) (whole : t ≡ quad (from q.nw) (from q.ne) (from q.sw) (from q.se)) where
  -- the images of the quarters that a turn brings to the four places are the quarters of the image
  pub quad-turned : (nw ne sw se : Id) → nw ≡ id_of_four (side_of turn false false) (turned_half turn false false) q
      → ne ≡ id_of_four (side_of turn true false) (turned_half turn true false) q → sw ≡ id_of_four (side_of turn false true) (turned_half turn false true) q
      → se ≡ id_of_four (side_of turn true true) (turned_half turn true true) q → (a b c d : Tree) → a ≡ turned_tree turn (from nw)
      → b ≡ turned_tree turn (from ne) → c ≡ turned_tree turn (from sw) → d ≡ turned_tree turn (from se) → quad a b c d ≡ turned_tree turn t
  quad-turned nw ne sw se is-nw is-ne is-sw is-se a b c d ea eb ec ed =
      let image : Id → Tree = λ id. turned_tree turn (from id) in
      let p = ea ∙ ap image is-nw ∙ quarter-turned turn from q _ _ in
      let r = eb ∙ ap image is-ne ∙ quarter-turned turn from q _ _ in
      let s = ec ∙ ap image is-sw ∙ quarter-turned turn from q _ _ in
      let u = ed ∙ ap image is-se ∙ quarter-turned turn from q _ _ in
      (λ i. quad (p i) (r i) (s i) (u i)) ∙ ap (turned_tree turn) (sym whole)

  -- and the parts of their images are parts of the image
  itself : (let image : Bool → Bool → Tree = λ u v. turned_tree turn (from (id_of_four (side_of turn u v) (turned_half turn u v) q)) in
      quad (image false false) (image true false) (image false true) (image true true) ≡ turned_tree turn t)
  itself = quad-turned _ _ _ _ refl refl refl refl _ _ _ _ refl refl refl refl

  pub part-nw : (id : Id) → id ≡ id_of_four (side_of turn false false) (turned_half turn false false) q → (P : Tree → Type 0)
      → SomePart P (turned_tree turn (from id)) → SomePart P (turned_tree turn t)
  part-nw id is P s = subst (SomePart P) itself (inr (inl (subst (λ (i : Id). SomePart P (turned_tree turn (from i))) is s)))

  pub part-ne : (id : Id) → id ≡ id_of_four (side_of turn true false) (turned_half turn true false) q → (P : Tree → Type 0)
      → SomePart P (turned_tree turn (from id)) → SomePart P (turned_tree turn t)
  part-ne id is P s = subst (SomePart P) itself (inr (inr (inl (subst (λ (i : Id). SomePart P (turned_tree turn (from i))) is s))))

  pub part-sw : (id : Id) → id ≡ id_of_four (side_of turn false true) (turned_half turn false true) q → (P : Tree → Type 0)
      → SomePart P (turned_tree turn (from id)) → SomePart P (turned_tree turn t)
  part-sw id is P s = subst (SomePart P) itself (inr (inr (inr (inl (subst (λ (i : Id). SomePart P (turned_tree turn (from i))) is s)))))

  pub part-se : (id : Id) → id ≡ id_of_four (side_of turn true true) (turned_half turn true true) q → (P : Tree → Type 0)
      → SomePart P (turned_tree turn (from id)) → SomePart P (turned_tree turn t)
  part-se id is P s = subst (SomePart P) itself (inr (inr (inr (inr (subst (λ (i : Id). SomePart P (turned_tree turn (from i))) is s)))))

-- they are known, and of the level below
pub quarter-known : (knows : Id → Type 0) (from : Id → Tree) (turn : Turn) (t : Tree) (q : Quarters) → AreQuarters knows from t q
    → ((id : Id) → knows id → IsFull (from id)) → IsFull t → (u v : Bool) (id : Id) → id ≡ id_of_four u v q
    → knows id × (depth (turned_tree turn (from id)) + 1 ≡ depth (turned_tree turn t))
quarter-known knows from turn t q are full whole u v id is =
    subst (λ (r : Id). knows r × (depth (turned_tree turn (from r)) + 1 ≡ depth (turned_tree turn t))) (sym is) (by u v)
  where
    one : (id : Id) → knows id → depth (from id) + 1 ≡ depth t → knows id × (depth (turned_tree turn (from id)) + 1 ≡ depth (turned_tree turn t))
    one id known level = (
      known,
      ap (λ (n : ℕ). n + 1) (depth-turned turn (from id) (full id known)) ∙ level ∙ sym (depth-turned turn t whole),
    )

    by : (u v : Bool) → knows (id_of_four u v q) × (depth (turned_tree turn (from (id_of_four u v q))) + 1 ≡ depth (turned_tree turn t))
    by false false = one q.nw are.nw are.nw_level
    by true false = one q.ne are.ne are.ne_level
    by false true = one q.sw are.sw are.sw_level
    by true true = one q.se are.se are.se_level

-- the image itself is one of its parts
pub part-whole : (a b c d t : Tree) → quad a b c d ≡ t → (P : Tree → Type 0) → P (quad a b c d) → SomePart P t
part-whole a b c d t e P p = subst (SomePart P) e (inl p)

-- ---- images that are remembered

-- in a store that keeps its squares they stay right
pub AreImages-kept : {S : Type 0} {knows : S → Id → Type 0} {content : S → Id → Tree} {stored : S → List Tree} {most : S → ℕ} {old new : S}
    → KeepsSquares knows content stored most old new → (from : Id → Tree) (turn : Turn) (image : Id → Option Id)
    → AreImages (knows old) (content old) from turn image → AreImages (knows new) (content new) from turn image
AreImages-kept keeps from turn image h id other e =
    let is = h id other e in
    let k = keeps.contents _ is.0 in (k.0, k.1 ∙ is.1)

or-else : Id → Option Id → Id
or-else d None = d
or-else d (Some x) = x

pub image-of : (knows : Id → Type 0) (to from : Id → Tree) (turn : Turn) (id other : Id) → knows other → to other ≡ turned_tree turn (from id)
    → IsRememberedImage knows to from turn id (Some other)
unfolding or-else
image-of knows to from turn id other known is another e =
    subst (λ r. knows r × (to r ≡ turned_tree turn (from id))) (ap (or-else other) e) (known, is)

pub none-known : (knows : Id → Type 0) (to from : Id → Tree) (turn : Turn) (image : Id → Option Id) → ((id : Id) → image id ≡ None)
    → AreImages knows to from turn image
none-known knows to from turn image none id other e = absurd (true≢false (sym (ap is_some (sym (none id) ∙ e))))
