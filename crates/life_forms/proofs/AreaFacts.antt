-- How many squares a square has at most, by its level.
use Rattle.std.proofs.Common.{◌≡◌, ◌⊎◌, inl, inr, ℕ, zero, suc, ◌+◌, ◌*◌, ◌<◌, ◌≤◌, List, [], ◌∷◌, ◌++◌, flat_map, length, map, refl, sym, ap, ◌∙◌, subst, arith, length-append}
use Rattle.std.proofs.lemmas.Bool.{cases_lt}
use Rattle.std.proofs.lemmas.List.{length-map}
use Rattle.life_base.specs.Tree.{Tree, point, quad, depth, IsFull}
use Rattle.life_base.specs.declared.cell.TheConstants.{MAX_LEVEL}
use Rattle.life_mc.specs.Squares.{HasStatesUpTo}
use Rattle.life_quad.specs.Refused.{SomePart}
use Rattle.life_pattern.specs.Universe.{Universe, IsBlankOutside, whole}
use Rattle.life_pattern.proofs.SpaceLists.{Among, among-left, among-right, contains-among}
use Rattle.life_pattern.proofs.Sameness.{same-is_one}
use Rattle.life_forms.specs.Forms.{IsMoved}
use Rattle.life_forms.specs.Needed.{HasLargerForm, SomeOfMovedForm}
use Rattle.life_forms.proofs.ShiftFacts.{forms-of-shifts, same-refl, still}
use Rattle.life_forms.proofs.SizeFacts.{longer}

-- ---- squares of level 1 and 2 of two states

-- the squares whose quarters are on a list
quads : List Tree → List Tree
quads ts = flat_map (λ a. flat_map (λ b. flat_map (λ c. map (λ d. quad a b c d) ts) ts) ts) ts

among-map : (f : Tree → Tree) (ts : List Tree) (t : Tree) → Among ts t → Among (map f ts) (f t)
among-map f [] t h = absurd h
among-map f (x ∷ ts) t (inl e) = inl (ap f e)
among-map f (x ∷ ts) t (inr h) = inr (among-map f ts t h)

among-flat : (f : Tree → List Tree) (ts : List Tree) (t u : Tree) → Among ts t → Among (f t) u → Among (flat_map f ts) u
among-flat f [] t u h k = absurd h
among-flat f (x ∷ ts) t u (inl e) k = among-left (f x) (flat_map f ts) u (subst (λ (v : Tree). Among (f v) u) (sym e) k)
among-flat f (x ∷ ts) t u (inr h) k = among-right (f x) (flat_map f ts) u (among-flat f ts t u h k)

among-quads : (ts : List Tree) (a b c d : Tree) → Among ts a → Among ts b → Among ts c → Among ts d → Among (quads ts) (quad a b c d)
unfolding quads
among-quads ts a b c d ha hb hc hd =
    among-flat (λ a. flat_map (λ b. flat_map (λ c. map (λ d. quad a b c d) ts) ts) ts) ts a (quad a b c d) ha
    (among-flat (λ b. flat_map (λ c. map (λ d. quad a b c d) ts) ts) ts b (quad a b c d) hb
    (among-flat (λ c. map (λ d. quad a b c d) ts) ts c (quad a b c d) hc (among-map (λ d. quad a b c d) ts d hd)))

length-flat : (f : Tree → List Tree) (n : ℕ) → ((t : Tree) → length (f t) ≡ n) → (ts : List Tree) → length (flat_map f ts) ≡ length ts * n
length-flat f n each [] = grind arith
length-flat f n each (x ∷ ts) =
    let e = each x in
    let p = length-append (f x) (flat_map f ts) in
    let h = length-flat f n each ts in
    grind (arith, e, p, h)

length-quads : (ts : List Tree) (n : ℕ) → length ts ≡ n → length (quads ts) ≡ n * (n * (n * n))
unfolding quads
length-quads ts n e =
    length-flat _ (n * (n * n)) (λ a. length-flat _ (n * n) (λ b. length-flat _ n (λ c. length-map ts _ ∙ e) ts ∙ ap (λ m. m * n) e) ts
    ∙ ap (λ m. m * (n * n)) e) ts
    ∙ ap (λ m. m * (n * (n * n))) e

-- the states 0 and 1, the squares of level 1, and those of level 2
states : List Tree
states = point 0 ∷ point 1 ∷ []

ones : List Tree
ones = quads states

twos : List Tree
twos = quads ones

count-ones : length ones ≡ 16
unfolding ones states
count-ones = length-quads states 2 refl

count-twos : length twos ≡ 65536
unfolding twos
count-twos = length-quads ones 16 count-ones

state-among : (s : ℕ) → s ≤ 1 → Among states (point s)
unfolding states
state-among zero h = inl refl
state-among (suc zero) h = inr (inl refl)
state-among (suc (suc s)) h = absurd (omega (arith, h))

point-among : (t : Tree) → depth t ≡ 0 → HasStatesUpTo 1 t → Among states t
point-among (point s) level h = state-among s h
point-among (quad a b c d) level h = absurd (omega (arith, level))

one-among : (t : Tree) → IsFull t → depth t ≡ 1 → HasStatesUpTo 1 t → Among ones t
unfolding ones
one-among (point s) full level h = absurd (omega (arith, level))
one-among (quad a b c d) full level h =
    let la : depth a ≡ 0 = omega (arith, level) in
    let eb = full.4 in
    let ec = full.5 in
    let ed = full.6 in
    among-quads states a b c d (point-among a la h.0) (point-among b (omega (arith, la, eb)) h.1) (point-among c (omega (arith, la, ec)) h.2)
    (point-among d (omega (arith, la, ed)) h.3)

two-among : (t : Tree) → IsFull t → depth t ≡ 2 → HasStatesUpTo 1 t → Among twos t
unfolding twos
two-among (point s) full level h = absurd (omega (arith, level))
two-among (quad a b c d) full level h =
    let la : depth a ≡ 1 = omega (arith, level) in
    let eb = full.4 in
    let ec = full.5 in
    let ed = full.6 in
    among-quads ones a b c d (one-among a full.0 la h.0) (one-among b full.1 (omega (arith, la, eb)) h.1) (one-among c full.2 (omega (arith, la, ec)) h.2)
    (one-among d full.3 (omega (arith, la, ed)) h.3)

-- ---- all parts of a square of two states

-- the square and its parts of level 3 and up, where the square is so many levels above 2
parts : ℕ → Tree → List Tree
parts zero t = []
parts (suc n) (point s) = []
parts (suc n) (quad a b c d) = quad a b c d ∷ (parts n a ++ (parts n b ++ (parts n c ++ parts n d)))

-- those of level 1 and 2 too
low : List Tree
low = ones ++ twos

small-among : (a b c d : Tree) → IsFull (quad a b c d) → depth (quad a b c d) ≤ 2 → HasStatesUpTo 1 (quad a b c d) → Among low (quad a b c d)
unfolding low
small-among a b c d full level h = elim (cases_lt (depth a) 1) [
  | inl l ↦ among-left ones twos _ (one-among (quad a b c d) full (omega (arith, l)) h)
  | inr r ↦ among-right ones twos _ (two-among (quad a b c d) full (omega (arith, r, level)) h)
]

small-part : (t : Tree) (u : Tree) → IsFull t → depth t ≤ 2 → HasStatesUpTo 1 t → SomePart (λ v. v ≡ u) t → Among low u
small-part (point s) u full level h p = absurd p
small-part (quad a b c d) u full level h (inl e) = subst (Among low) e (small-among a b c d full level h)
small-part (quad a b c d) u full level h (inr (inl k)) = small-part a u full.0 (omega (arith, level)) h.0 k
small-part (quad a b c d) u full level h (inr (inr (inl k))) = let e = full.4 in small-part b u full.1 (omega (arith, level, e)) h.1 k
small-part (quad a b c d) u full level h (inr (inr (inr (inl k)))) = let e = full.5 in small-part c u full.2 (omega (arith, level, e)) h.2 k
small-part (quad a b c d) u full level h (inr (inr (inr (inr k)))) = let e = full.6 in small-part d u full.3 (omega (arith, level, e)) h.3 k

among-split : (xs ys : List Tree) (u : Tree) → Among (xs ++ ys) u → Among xs u ⊎ Among ys u
among-split [] ys u h = inr h
among-split (x ∷ xs) ys u (inl e) = inl (inl e)
among-split (x ∷ xs) ys u (inr h) = elim (among-split xs ys u h) [
  | inl l ↦ inl (inr l)
  | inr r ↦ inr r
]

-- what is among the parts of a quarter is among those of the square
of-quarter : (n : ℕ) (a b c d v u : Tree) → (Among (parts n v) u → Among (parts n a ++ (parts n b ++ (parts n c ++ parts n d))) u)
    → Among (low ++ parts n v) u → Among (low ++ parts (suc n) (quad a b c d)) u
unfolding parts
of-quarter n a b c d v u into k = elim (among-split low (parts n v) u k) [
  | inl l ↦ among-left low _ u l
  | inr r ↦ among-right low _ u (inr (into r))
]

part-among : (n : ℕ) (t : Tree) (u : Tree) → IsFull t → depth t ≤ n + 2 → HasStatesUpTo 1 t → SomePart (λ v. v ≡ u) t → Among (low ++ parts n t) u
unfolding parts
part-among zero t u full level h p = among-left low [] u (small-part t u full (omega (arith, level)) h p)
part-among (suc n) (point s) u full level h p = absurd p
part-among (suc n) (quad a b c d) u full level h (inl e) = among-right low _ u (inl e)
part-among (suc n) (quad a b c d) u full level h (inr (inl k)) =
    of-quarter n a b c d a u (among-left (parts n a) _ u) (part-among n a u full.0 (omega (arith, level)) h.0 k)
part-among (suc n) (quad a b c d) u full level h (inr (inr (inl k))) =
    let e = full.4 in
    of-quarter n a b c d b u (λ r. among-right (parts n a) _ u (among-left (parts n b) _ u r)) (part-among n b u full.1 (omega (arith, level, e)) h.1 k)
part-among (suc n) (quad a b c d) u full level h (inr (inr (inr (inl k)))) =
    let e = full.5 in
    of-quarter n a b c d c u (λ r. among-right (parts n a) _ u (among-right (parts n b) _ u (among-left (parts n c) _ u r)))
    (part-among n c u full.2 (omega (arith, level, e)) h.2 k)
part-among (suc n) (quad a b c d) u full level h (inr (inr (inr (inr k)))) =
    let e = full.6 in
    of-quarter n a b c d d u (λ r. among-right (parts n a) _ u (among-right (parts n b) _ u (among-right (parts n c) _ u r)))
    (part-among n d u full.3 (omega (arith, level, e)) h.3 k)

-- as many squares of level 3 and up has one so many levels above 2
abbrev pub most_parts : ℕ → ℕ
most_parts zero = 0
most_parts (suc n) = 1 + 4 * most_parts n

few-parts : (n : ℕ) (t : Tree) → length (parts n t) ≤ most_parts n
unfolding parts
few-parts zero t = let none : length (parts zero t) ≡ 0 = refl in omega (arith, none)
few-parts (suc n) (point s) = omega arith
few-parts (suc n) (quad a b c d) =
    let ha = few-parts n a in
    let hb = few-parts n b in
    let hc = few-parts n c in
    let hd = few-parts n d in
    let p = length-append (parts n a) (parts n b ++ (parts n c ++ parts n d)) in
    let q = length-append (parts n b) (parts n c ++ parts n d) in
    let r = length-append (parts n c) (parts n d) in
    omega (arith, ha, hb, hc, hd, p, q, r)

count-low : length low ≡ 65552
unfolding low
count-low = let a = length-append ones twos in let b = count-ones in let c = count-twos in omega (arith, a, b, c)

-- A pattern of two states whose moved forms have roots of this level at most has no larger form than so many squares: each of level 1 or 2, and
-- their parts above.
pub no-larger : (n most : ℕ) (w : Universe) → IsBlankOutside MAX_LEVEL w.cell
    → ((v : Universe) → IsMoved MAX_LEVEL w v → IsFull (whole MAX_LEVEL v) × (depth (whole MAX_LEVEL v) ≤ n + 2) × HasStatesUpTo 1 (whole MAX_LEVEL v))
    → 65552 + most_parts n ≤ most → ¬ HasLargerForm most w
no-larger n most w outside known enough more = by more.0 refl
  where
    by : (squares : List Tree) → squares ≡ more.0 → ⊥
    by [] e = let some = more.3 in let len : length more.0 ≡ 0 = ap length (sym e) in omega (arith, some, len)
    by (t ∷ rest) e =
        let len : 0 < length more.0 = subst (λ (ts : List Tree). 0 < length ts) e (omega arith) in
        let first = (more.2 0 t len).1 in
        let v = first.0 in
        let root = whole MAX_LEVEL v in
        let is = known v first.1 in
        let same = λ (x : Universe) (moved : IsMoved MAX_LEVEL w x). same-is_one x v
        (forms-of-shifts MAX_LEVEL w w x v outside moved first.1 (still w w (same-refl w))) in
        let all = low ++ parts n root in
        let long = longer (λ P. SomeOfMovedForm P w) all most
        (λ u live some. contains-among all u
        (part-among n root u is.0 is.1 is.2 (subst (λ (x : Universe). SomePart (λ s. s ≡ u) (whole MAX_LEVEL x)) (same some.0 some.1) some.2))) more in
        let few = few-parts n root in
        let both = length-append low (parts n root) in
        let small = count-low in
        omega (arith, long, few, both, small, enough)
