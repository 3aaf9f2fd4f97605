-- Facts about strips one below the other.
use Rattle.life_base.specs.declared.cell.TheConstants.{MAX_LEVEL}
use Rattle.std.proofs.Common.{length-append, Result, Ok, Err, OnOk, ◌≡◌, ℕ, zero, suc, ◌+◌, ◌-◌, ◌*◌, ◌/◌, ◌%◌, ◌^◌, ◌≤◌, ◌<◌, Bool, true, false, nat_lt, List, [], ◌∷◌, ◌++◌, length, get_or, All, refl, sym, ◌∙◌, ap, subst, arith, if◌then◌else◌, slice_get, Some, div-add-mod'}
use Rattle.std.proofs.lemmas.Nat.{div-mul-add, mod-mul-add, mod_below}
use Rattle.std.proofs.Math.Nat.{mul_assoc, add-mul}
use Rattle.std.proofs.Math.Pow.{pow_mono}
use Rattle.std.proofs.Math.Seq.{get_or-append_seam}
use Rattle.std.proofs.lemmas.List.{get_or_append_left}
use Rattle.std.proofs.lemmas.List.Elements.{All-tail}
use Rattle.std.proofs.lemmas.List.Quantifiers.{all_pairs_push}
use Rattle.std.proofs.lemmas.Option.{get_or_from_slice_get, slice_get-get_or}
use Rattle.life_quad.specs.declared.id.Id.{Id}
use Rattle.life_quad.specs.Keeping.{KeepsSquares}
use Rattle.life_base.specs.Tree.{Tree, quad, depth, blank, state_at}
use Rattle.life_strip.specs.declared.spans.Strip.{Strip}
use Rattle.life_strip.specs.Strip.{id_at, id_or, square_at, IsStrip, IsPaired}
use Rattle.life_strip.specs.Picture.{state_in_strip, picture, height, AreFalling, AreStacked, IsLowest, IsNotLast, IsSoundStrip, IsStack}
use Rattle.life_strip.proofs.SpanLemmas.{Keeps, content_or, depth-square_at, known_or, square-keeps, strip-keeps}
use Rattle.life_base.proofs.Basics.{twice}
use Rattle.life_base.proofs.Squares.{state_at-blank}

-- the western half of two columns of squares
pub west : (i m : ℕ) → i % (2 * m) < m → (i / m ≡ 2 * (i / (2 * m))) × (i % m ≡ i % (2 * m))
west i m h =
    let q = i / (2 * m) in
    let r = i % (2 * m) in
    let whole : i ≡ q * 2 * m + r = sym (div-add-mod' i (2 * m)) ∙ ap (λ z. z + r) (sym (mul_assoc q 2 m)) in
    (ap (λ z. z / m) whole ∙ div-mul-add (q * 2) m r h ∙ (omega arith), ap (λ z. z % m) whole ∙ mod-mul-add (q * 2) m r h)

-- and the eastern one
pub east : (i m : ℕ) → 0 < m → m ≤ i % (2 * m) → (i / m ≡ 2 * (i / (2 * m)) + 1) × (i % m ≡ i % (2 * m) - m)
east i m positive h =
    let q = i / (2 * m) in
    let r = i % (2 * m) in
    let below : r < 2 * m = mod_below i (2 * m) (omega (arith, positive)) in
    let small : r - m < m = omega (arith, below, h) in
    let one : (q * 2 + 1) * m ≡ q * 2 * m + m = add-mul (q * 2) 1 m ∙ (omega arith) in
    let first : i ≡ q * 2 * m + r = sym (div-add-mod' i (2 * m)) ∙ ap (λ z. z + r) (sym (mul_assoc q 2 m)) in
    let whole : i ≡ (q * 2 + 1) * m + (r - m) = omega (arith, first, one, h) in
    (ap (λ z. z / m) whole ∙ div-mul-add (q * 2 + 1) m (r - m) small ∙ (omega arith), ap (λ z. z % m) whole ∙ mod-mul-add (q * 2 + 1) m (r - m) small)

pub positive_power : (k : ℕ) → 0 < 2 ^ k
positive_power zero = omega arith
positive_power (suc k) = let h = positive_power k in let e : 2 ^ suc k ≡ 2 ^ k + 2 ^ k = grind arith in omega (arith, h, e)

-- the rows of a square of four are those of the two above and then those of the two below
quad-row : (a b c d : Tree) (i j m : ℕ) → m ≡ 2 ^ depth a
    → state_at (quad a b c d) i j ≡
    (if nat_lt j m then (if nat_lt i m then state_at a i j else state_at b (i - m) j) else
    (if nat_lt i m then state_at c i (j - m) else state_at d (i - m) (j - m)))
quad-row a b c d i j m e =
    sym (ap (λ z. if nat_lt j z then (if nat_lt i z then state_at a i j else state_at b (i - z) j) else
    (if nat_lt i z then state_at c i (j - z) else state_at d (i - z) (j - z))) e)

-- a strip of pairs has the rows of the two strips
pub stack : (knows : Id → Type 0) (old new : Id → Tree) (upper lower both : Strip) → IsStrip knows old upper.level upper.spans.items
    → lower.level ≡ upper.level → both.level ≡ suc upper.level
    → IsPaired old new upper.level upper.spans.items lower.spans.items both.spans.items → IsStack old new upper lower both
stack knows old new upper lower both sound same level paired column row =
    first ∙ ap (λ t. state_at t (column % (2 * m)) row) (paired (column / (2 * m)))
    ∙ quad-row (u (2 * c)) (u (2 * c + 1)) (l (2 * c)) (l (2 * c + 1)) (column % (2 * m)) row m deep ∙ by (nat_lt (column % (2 * m)) m) refl
  where
    k : ℕ
    k = upper.level

    m : ℕ
    m = 2 ^ upper.level

    u : ℕ → Tree
    u = square_at old upper.level upper.spans.items

    l : ℕ → Tree
    l = square_at old upper.level lower.spans.items

    c : ℕ
    c = column / (2 * 2 ^ upper.level)

    first : state_in_strip new both column row ≡ state_at (square_at new (suc upper.level) both.spans.items (column / (2 * m))) (column % (2 * m)) row
    first =
        (λ x. state_at (square_at new (level x) both.spans.items (column / 2 ^ level x)) (column % 2 ^ level x) row)
        ∙ ap (λ w. state_at (square_at new (suc upper.level) both.spans.items (column / w)) (column % w) row) (twice upper.level)

    deep : m ≡ 2 ^ depth (u (2 * c))
    deep = ap (λ z. 2 ^ z) (sym (depth-square_at knows old upper.level upper.spans.items sound (2 * c)))

    below : state_in_strip old lower column (row - m) ≡ state_at (l (column / m)) (column % m) (row - m)
    below = λ x. state_at (square_at old (same x) lower.spans.items (column / 2 ^ same x)) (column % 2 ^ same x) (row - m)

    by : (b : Bool) → nat_lt (column % (2 * m)) m ≡ b
        → (if nat_lt row m then (if nat_lt (column % (2 * m)) m then state_at (u (2 * c)) (column % (2 * m)) row else state_at (u (2 * c + 1))
        (column % (2 * m) - m) row)
        else (if nat_lt (column % (2 * m)) m then state_at (l (2 * c)) (column % (2 * m)) (row - m) else state_at (l (2 * c + 1)) (column % (2 * m) - m)
        (row - m)))
        ≡ (if nat_lt row m then state_in_strip old upper column row else state_in_strip old lower column (row - m))
    by true e =
        let w = west column m (grind arith) in
        ap (λ t. if nat_lt row m then (if t then state_at (u (2 * c)) (column % (2 * m)) row else state_at (u (2 * c + 1)) (column % (2 * m) - m) row)
        else (if t then state_at (l (2 * c)) (column % (2 * m)) (row - m) else state_at (l (2 * c + 1)) (column % (2 * m) - m) (row - m))) e
        ∙ (λ x. if nat_lt row m then state_at (u (sym w.0 x)) (sym w.1 x) row else state_at (l (sym w.0 x)) (sym w.1 x) (row - m))
        ∙ ap (λ z. if nat_lt row m then state_in_strip old upper column row else z) (sym below)
    by false e =
        let w = east column m (positive_power upper.level) (grind arith) in
        ap (λ t. if nat_lt row m then (if t then state_at (u (2 * c)) (column % (2 * m)) row else state_at (u (2 * c + 1)) (column % (2 * m) - m) row)
        else (if t then state_at (l (2 * c)) (column % (2 * m)) (row - m) else state_at (l (2 * c + 1)) (column % (2 * m) - m) (row - m))) e
        ∙ (λ x. if nat_lt row m then state_at (u (sym w.0 x)) (sym w.1 x) row else state_at (l (sym w.0 x)) (sym w.1 x) (row - m))
        ∙ ap (λ z. if nat_lt row m then state_in_strip old upper column row else z) (sym below)

-- the height of one strip more
pub height-push : (xs : List Strip) (s : Strip) → height (xs ++ s ∷ []) ≡ height xs + 2 ^ s.level
height-push [] s = omega arith
height-push (x ∷ xs) s = let e = height-push xs s in omega (arith, e)

module _ {knows knows' : Id → Type 0} {old new : Id → Tree} (keeps : Keeps knows knows' old new) where
  -- a strip keeps its cells
  pub state_in-keeps : (s : Strip) → IsSoundStrip knows old s → (i j : ℕ) → state_in_strip new s i j ≡ state_in_strip old s i j
  state_in-keeps s h i j = ap (λ t. state_at t (i % 2 ^ s.level) j) (square-keeps keeps s.level s.spans.items h.squares (i / 2 ^ s.level))

  pub sound-keeps : (s : Strip) → IsSoundStrip knows old s → IsSoundStrip knows' new s
  sound-keeps s h = record { squares = strip-keeps keeps s.level s.spans.items h.squares; within = h.within; rises = h.rises }

  pub all-keeps : (xs : List Strip) → All (IsSoundStrip knows old) xs → All (IsSoundStrip knows' new) xs
  all-keeps xs h k d lt = sound-keeps (get_or xs k d) (h k d lt)

  -- two strips made one
  pub picture-merge : (xs : List Strip) (a b ab : Strip) → All (IsSoundStrip knows old) xs → b.level ≡ a.level → ab.level ≡ suc a.level → IsStack old new a b ab
      → (i j : ℕ) → picture new (xs ++ ab ∷ []) i j ≡ picture old ((xs ++ a ∷ []) ++ b ∷ []) i j
  picture-merge [] a b ab h same level st i j = by (nat_lt j (2 ^ a.level)) refl (nat_lt j (2 ^ ab.level)) refl
    where
      w : 2 ^ ab.level ≡ 2 ^ a.level + 2 ^ a.level
      w = ap (λ n. 2 ^ n) level ∙ twice a.level ∙ (omega arith)

      v : 2 ^ b.level ≡ 2 ^ a.level
      v = ap (λ n. 2 ^ n) same

      by : (p : Bool) → nat_lt j (2 ^ a.level) ≡ p → (q : Bool) → nat_lt j (2 ^ ab.level) ≡ q → picture new (ab ∷ []) i j ≡ picture old (a ∷ b ∷ []) i j
      by true e true f = ap (λ t. if t then state_in_strip new ab i j else 0) f ∙ st i j
          ∙ ap (λ t. if t then state_in_strip old a i j else state_in_strip old b i (j - 2 ^ a.level)) e
          ∙ sym (ap (λ t. if t then state_in_strip old a i j else picture old (b ∷ []) i (j - 2 ^ a.level)) e)
      by true e false f = absurd (let x : j < 2 ^ a.level = grind arith in let y : 2 ^ ab.level ≤ j = grind arith in omega (arith, w, x, y))
      by false e true f =
          let x : 2 ^ a.level ≤ j = grind arith in
          let y : j < 2 ^ ab.level = grind arith in
          let z : j - 2 ^ a.level < 2 ^ b.level = omega (arith, v, w, x, y) in
          let t : nat_lt (j - 2 ^ a.level) (2 ^ b.level) ≡ true = grind arith in
          ap (λ t. if t then state_in_strip new ab i j else 0) f ∙ st i j
          ∙ ap (λ t. if t then state_in_strip old a i j else state_in_strip old b i (j - 2 ^ a.level)) e
          ∙ sym (ap (λ t. if t then state_in_strip old a i j else picture old (b ∷ []) i (j - 2 ^ a.level)) e
          ∙ ap (λ t. if t then state_in_strip old b i (j - 2 ^ a.level) else 0) t)
      by false e false f =
          let x : 2 ^ a.level ≤ j = grind arith in
          let y : 2 ^ ab.level ≤ j = grind arith in
          let z : 2 ^ b.level ≤ j - 2 ^ a.level = omega (arith, v, w, x, y) in
          let t : nat_lt (j - 2 ^ a.level) (2 ^ b.level) ≡ false = grind arith in
          ap (λ t. if t then state_in_strip new ab i j else 0) f
          ∙ sym (ap (λ t. if t then state_in_strip old a i j else picture old (b ∷ []) i (j - 2 ^ a.level)) e
          ∙ ap (λ t. if t then state_in_strip old b i (j - 2 ^ a.level) else 0) t)
  picture-merge (x ∷ xs) a b ab h same level st i j =
      let here = state_in-keeps x (h 0 x (omega arith)) i j in
      let more = picture-merge xs a b ab (λ k d lt. h (suc k) d (omega (arith, lt))) same level st i (j - 2 ^ x.level) in
      λ y. if nat_lt j (2 ^ x.level) then here y else more y

-- strips that a call keeps
pub strips-kept : {S : Type 0} {knows : S → Id → Type 0} {content : S → Id → Tree} {stored : S → List Tree} {most : S → ℕ} {old new : S}
    → KeepsSquares knows content stored most old new
    → (xs : List Strip) → All (IsSoundStrip (knows old) (content old)) xs → All (IsSoundStrip (knows new) (content new)) xs
strips-kept {knows = knows} {content = content} {old = old} {new = new} keeps =
    all-keeps {knows = knows old} {knows' = knows new} {old = content old} {new = content new} keeps.contents

pub stack-kept : {S : Type 0} {knows : S → Id → Type 0} {content : S → Id → Tree} {stored : S → List Tree} {most : S → ℕ} {old new : S}
    → KeepsSquares knows content stored most old new
    → (xs : List Strip) → AreStacked (knows old) (content old) xs → AreStacked (knows new) (content new) xs
stack-kept keeps xs h = record { sound = strips-kept keeps xs h.sound; falling = h.falling }

pub on_ok_map3 : {T E : Type 0} {P Q R S : Type 0} (r : Result T E) → (P → Q → R → S) → OnOk r P → OnOk r Q → OnOk r R → OnOk r S
on_ok_map3 (Ok x) f p q s = f p q s
on_ok_map3 (Err e) f p q s = tt

-- strips keep their cells
pub picture-keeps : {knows knows' : Id → Type 0} {old new : Id → Tree} (keeps : Keeps knows knows' old new) (xs : List Strip) → All (IsSoundStrip knows old) xs
    → (i j : ℕ) → picture new xs i j ≡ picture old xs i j
picture-keeps keeps [] h i j = refl
picture-keeps {knows} {knows'} {old} {new} keeps (x ∷ xs) h i j =
    let here = state_in-keeps keeps x (h 0 x (omega arith)) i j in
    let more = picture-keeps {knows = knows} {knows' = knows'} {old = old} {new = new} keeps xs (All-tail (IsSoundStrip knows old) x xs h) i
    (j - 2 ^ x.level) in
    λ y. if nat_lt j (2 ^ x.level) then here y else more y

-- no cell is below the last strip
pub picture-beyond : (content : Id → Tree) (xs : List Strip) (i j : ℕ) → height xs ≤ j → picture content xs i j ≡ 0
picture-beyond content [] i j le = refl
picture-beyond content (x ∷ xs) i j le =
    let out : nat_lt j (2 ^ x.level) ≡ false = grind (arith, le) in
    ap (λ b. if b then state_in_strip content x i j else picture content xs i (j - 2 ^ x.level)) out
    ∙ picture-beyond content xs i (j - 2 ^ x.level) (omega (arith, le))

-- the rows of strips, and then those of the strips below them
pub picture-append : (content : Id → Tree) (xs ys : List Strip) (i j : ℕ)
    → picture content (xs ++ ys) i j ≡ (if nat_lt j (height xs) then picture content xs i j else picture content ys i (j - height xs))
picture-append content [] ys i j =
    let none : nat_lt j 0 ≡ false = grind arith in
    let same : j - 0 ≡ j = omega arith in
    sym (ap (λ b. if b then 0 else picture content ys i (j - 0)) none ∙ ap (picture content ys i) same)
picture-append content (x ∷ xs) ys i j = by (picture-append content xs ys i (j - 2 ^ x.level)) (nat_lt j (2 ^ x.level)) refl
  where
    m : ℕ
    m = 2 ^ x.level

    by : picture content (xs ++ ys) i (j - 2 ^ x.level)
        ≡ (if nat_lt (j - 2 ^ x.level) (height xs) then picture content xs i (j - 2 ^ x.level) else picture content ys i (j - 2 ^ x.level - height xs))
        → (b : Bool) → nat_lt j (2 ^ x.level) ≡ b
        → picture content (x ∷ xs ++ ys) i j
        ≡ (if nat_lt j (2 ^ x.level + height xs) then picture content (x ∷ xs) i j else picture content ys i (j - (2 ^ x.level + height xs)))
    by more true e =
        let in_all : nat_lt j (2 ^ x.level + height xs) ≡ true = grind (arith, e) in
        ap (λ b. if b then state_in_strip content x i j else picture content (xs ++ ys) i (j - 2 ^ x.level)) e
        ∙ sym (ap (λ b. if b then picture content (x ∷ xs) i j else picture content ys i (j - (2 ^ x.level + height xs))) in_all
        ∙ ap (λ b. if b then state_in_strip content x i j else picture content xs i (j - 2 ^ x.level)) e)
    by more false e =
        let beyond : 2 ^ x.level ≤ j = grind (arith, e) in
        let in_all : nat_lt j (2 ^ x.level + height xs) ≡ nat_lt (j - 2 ^ x.level) (height xs) = grind (arith, beyond) in
        let rest : j - 2 ^ x.level - height xs ≡ j - (2 ^ x.level + height xs) = omega arith in
        ap (λ b. if b then state_in_strip content x i j else picture content (xs ++ ys) i (j - 2 ^ x.level)) e ∙ more
        ∙ sym ((λ k. if in_all k then (if e k then state_in_strip content x i j else picture content xs i (j - 2 ^ x.level)) else picture content ys i
        (sym rest k)))

-- two strips of a level within the plane are of a level below the greatest
pub fits_below : (h k : ℕ) → h + 2 ^ k + 2 ^ k ≤ 2 ^ MAX_LEVEL → k < MAX_LEVEL
fits_below h k le = by (nat_lt k MAX_LEVEL) refl
  where
    by : (b : Bool) → nat_lt k MAX_LEVEL ≡ b → k < MAX_LEVEL
    by true e = grind arith
    by false e = absurd (let above : MAX_LEVEL ≤ k = grind arith in let more = pow_mono {i = MAX_LEVEL} {j = k} above in omega (arith, more, le))

-- all but the last
pub all_init : {X : Type 0} (P : X → Type 0) (xs : List X) (x : X) → All P (xs ++ x ∷ []) → All P xs
all_init P xs x h k d lt = subst P (get_or_append_left xs (x ∷ []) d k lt) (h k d (omega (arith, lt, length-append xs (x ∷ []))))

-- the last
pub all_last : {X : Type 0} (P : X → Type 0) (xs : List X) (x : X) → All P (xs ++ x ∷ []) → P x
all_last P xs x h = subst P (get_or-append_seam xs x [] x) (h (length xs) x (omega (arith, length-append xs (x ∷ []))))

-- a blank strip below the others changes no cell
pub picture-blank : (content : Id → Tree) (xs : List Strip) (s : Strip) → s.spans.items ≡ [] → (i j : ℕ) → picture content (xs ++ s ∷ []) i j
    ≡ picture content xs i j
picture-blank content [] s e i j = by (nat_lt j (2 ^ s.level))
  where
    none : state_in_strip content s i j ≡ 0
    none = ap (λ z. state_at (square_at content s.level z (i / 2 ^ s.level)) (i % 2 ^ s.level) j) e ∙ state_at-blank s.level (i % 2 ^ s.level) j

    by : (b : Bool) → (if b then state_in_strip content s i j else 0) ≡ 0
    by true = none
    by false = refl
picture-blank content (x ∷ xs) s e i j =
    let more = picture-blank content xs s e i (j - 2 ^ x.level) in
    λ y. if nat_lt j (2 ^ x.level) then state_in_strip content x i j else more y

-- powers below the next power are at most this one
pub power-at_most : (k n r : ℕ) → 2 ^ k ≤ n → n < 2 * 2 ^ r → k ≤ r
power-at_most k n r fits above = by (nat_lt r k) refl
  where
    by : (t : Bool) → nat_lt r k ≡ t → k ≤ r
    by true e = absurd (let more = pow_mono {i = suc r} {j = k} (grind arith) in omega (arith, more, fits, above))
    by false e = grind arith

-- the level of a strip among others, and of the last
level_left : (xs : List Strip) (x : Strip) (k : ℕ) (d : Strip) → k < length xs → (get_or (xs ++ x ∷ []) k d).level ≡ (get_or xs k d).level
level_left xs x k d lt = ap (λ s. s.level) (get_or_append_left xs (x ∷ []) d k lt)

level_last : (xs : List Strip) (x d : Strip) → (get_or (xs ++ x ∷ []) (length xs) d).level ≡ x.level
level_last xs x d = ap (λ s. s.level) (get_or-append_seam xs x [] d)

-- the last of them is the lowest
pub last-lowest : (xs : List Strip) (x : Strip) → AreFalling xs → slice_get xs (length xs - 1) ≡ Some x → IsLowest x.level xs
last-lowest xs x fall last k d lt = by (nat_lt k (length xs - 1)) refl
  where
    there : (get_or xs (length xs - 1) d).level ≡ x.level
    there = ap (λ s. s.level) (get_or_from_slice_get xs (length xs - 1) x d last)

    by : (b : Bool) → nat_lt k (length xs - 1) ≡ b → x.level ≤ (get_or xs k d).level
    by true e =
        let a = fall k (length xs - 1) d (grind arith) (omega (arith, lt)) in
        omega (arith, a, there)
    by false e =
        let same : k ≡ length xs - 1 = (let f : length xs - 1 ≤ k = grind arith in omega (arith, f, lt)) in
        let q = ap (λ z. (get_or xs z d).level) same in
        omega (arith, q, there)

-- all but the last fall too
pub falling-init : (xs : List Strip) (x : Strip) → AreFalling (xs ++ x ∷ []) → AreFalling xs
falling-init xs x h i j d ij jl =
    let n = length-append xs (x ∷ []) in
    let a = h i j d ij (omega (arith, n, jl)) in
    let p = level_left xs x j d jl in
    let il : i < length xs = omega (arith, ij, jl) in
    let q = level_left xs x i d il in
    omega (arith, a, p, q)

-- and the next level is at most theirs
pub lowest-init : (xs : List Strip) (x : Strip) → AreFalling (xs ++ x ∷ []) → (n : ℕ) → n ≡ suc x.level → IsLowest n xs
lowest-init xs x h n e k d lt =
    let m = length-append xs (x ∷ []) in
    let a = h k (length xs) d lt (omega (arith, m)) in
    let p = level_left xs x k d lt in
    let q = level_last xs x d in
    omega (arith, a, p, q, e)

-- a strip that is no higher than the others, of another level than the last
pub falling-below : (xs : List Strip) (y : Strip) → AreFalling xs → IsLowest y.level xs → IsNotLast y.level xs → AreFalling (xs ++ y ∷ [])
falling-below xs y fall low other =
    all_pairs_push (λ s t. t.level < s.level) xs y fall (λ k d lt. by k d lt (nat_lt y.level (get_or xs k d).level) refl)
  where
    by : (k : ℕ) (d : Strip) → k < length xs → (b : Bool) → nat_lt y.level (get_or xs k d).level ≡ b → y.level < (get_or xs k d).level
    by k d lt true e = grind arith
    by k d lt false e =
        let last = get_or xs (length xs - 1) d in
        let there = slice_get-get_or xs (length xs - 1) d (omega (arith, lt)) in
        let above = last-lowest xs last fall there k d lt in
        let most = low (length xs - 1) d (omega (arith, lt)) in
        let less : (get_or xs k d).level ≤ y.level = grind arith in
        absurd (other last there (omega (arith, above, most, less)))

-- strips of falling levels below a level have fewer rows than a square of it
pub height-falling : (xs : List Strip) (n : ℕ) → AreFalling xs → ((k : ℕ) (d : Strip) → k < length xs → (get_or xs k d).level < n) → height xs < 2 ^ n
height-falling [] n fall low = positive_power n
height-falling (x ∷ xs) n fall low =
    let first : x.level < n = low 0 x (omega arith) in
    let rest = height-falling xs x.level (λ i j d ij jl. fall (suc i) (suc j) d (omega (arith, ij)) (omega (arith, jl)))
    (λ k d lt. fall 0 (suc k) d (omega arith) (omega (arith, lt))) in
    let two = twice x.level in
    let more = pow_mono {i = suc x.level} {j = n} (omega (arith, first)) in
    omega (arith, rest, two, more)

-- strips of falling levels with the rows of a square are one
pub one_strip_of : (level : ℕ) (xs : List Strip) → AreFalling xs → height xs ≡ 2 ^ level → (s : Strip) × (xs ≡ s ∷ []) × (s.level ≡ level)
one_strip_of level [] fall full = absurd (let p = positive_power level in omega (arith, full, p))
one_strip_of level (x ∷ []) fall full = (x, refl, by (nat_lt x.level level) refl (nat_lt level x.level) refl)
  where
    by : (p : Bool) → nat_lt x.level level ≡ p → (q : Bool) → nat_lt level x.level ≡ q → x.level ≡ level
    by true e q f = absurd (let a : suc x.level ≤ level = grind arith in let m = pow_mono {i = suc x.level} {j = level} a in let t = twice x.level in
        let z = positive_power x.level in omega (arith, m, t, z, full))
    by false e true f = absurd (let a : suc level ≤ x.level = grind arith in let m = pow_mono {i = suc level} {j = x.level} a in let t = twice level in
        let z = positive_power level in omega (arith, m, t, z, full))
    by false e false f = grind arith
one_strip_of level (x ∷ y ∷ xs) fall full = absurd (by (nat_lt x.level level) refl)
  where
    rest : height (y ∷ xs) < 2 ^ x.level
    rest = height-falling (y ∷ xs) x.level (λ i j d ij jl. fall (suc i) (suc j) d (omega (arith, ij)) (omega (arith, jl)))
        (λ k d lt. fall 0 (suc k) d (omega arith) (omega (arith, lt)))

    by : (p : Bool) → nat_lt x.level level ≡ p → ⊥
    by true e = let a : suc x.level ≤ level = grind arith in let m = pow_mono {i = suc x.level} {j = level} a in let t = twice x.level in
        let r = rest in omega (arith, m, t, r, full)
    by false e = let a : level ≤ x.level = grind arith in let m = pow_mono {i = level} {j = x.level} a in let z = positive_power y.level in
        omega (arith, m, z, full)

-- and those that fill the plane
pub one_strip : (xs : List Strip) → AreFalling xs → height xs ≡ 2 ^ MAX_LEVEL → (s : Strip) × (xs ≡ s ∷ []) × (s.level ≡ MAX_LEVEL)
one_strip = one_strip_of MAX_LEVEL

-- the first square of one strip of the greatest level has the cells of the plane
pub record IsWhole (knows : Id → Type 0) (content : Id → Tree) (strips : List Strip) (id : Id) : Type 0 where
  pub known : knows id
  pub level : depth (content id) ≡ MAX_LEVEL
  pub cells : (i j : ℕ) → i < 2 ^ MAX_LEVEL → j < 2 ^ MAX_LEVEL → state_at (content id) i j ≡ picture content strips i j

pub whole-strip : (knows : Id → Type 0) (content : Id → Tree) (s : Strip) (b id : Id) → IsSoundStrip knows content s → s.level ≡ MAX_LEVEL → knows b
    → content b ≡ blank MAX_LEVEL
    → id ≡ id_or b (id_at s.spans.items 0) → IsWhole knows content (s ∷ []) id
whole-strip knows content s b id sound e known is_blank h =
    record {
      known = subst knows (sym h) (known_or knows content s.level s.spans.items sound.squares b known at_level 0);
      level = ap depth square ∙ depth-square_at knows content s.level s.spans.items sound.squares 0 ∙ e;
      cells = at;
    }
  where
    at_level : content b ≡ blank s.level
    at_level = is_blank ∙ ap blank (sym e)

    side : 2 ^ s.level ≡ 2 ^ MAX_LEVEL
    side = ap (λ n. 2 ^ n) e

    square : content id ≡ square_at content s.level s.spans.items 0
    square = ap content h ∙ content_or knows content s.level s.spans.items sound.squares b known at_level 0

    at : (i j : ℕ) → i < 2 ^ MAX_LEVEL → j < 2 ^ MAX_LEVEL → state_at (content id) i j ≡ picture content (s ∷ []) i j
    at i j il jl =
        let below : i < 2 ^ s.level = omega (arith, il, side) in
        let row : nat_lt j (2 ^ s.level) ≡ true = let l : j < 2 ^ s.level = omega (arith, jl, side) in grind arith in
        let p : i ≡ 0 * 2 ^ s.level + i = omega arith in
        let q : i / 2 ^ s.level ≡ 0 = ap (λ z. z / 2 ^ s.level) p ∙ div-mul-add 0 (2 ^ s.level) i below in
        let r : i % 2 ^ s.level ≡ i = ap (λ z. z % 2 ^ s.level) p ∙ mod-mul-add 0 (2 ^ s.level) i below in
        ap (λ t. state_at t i j) square
        ∙ (λ x. state_at (square_at content s.level s.spans.items (sym q x)) (sym r x) j)
        ∙ sym (ap (λ t. if t then state_in_strip content s i j else 0) row)
