-- Leaves in a list of leaves.
use Rattle.std.proofs.Common.{◌≡◌, ◌≢◌, ℕ, zero, suc, ◌+◌, ◌/◌, ◌%◌, ◌^◌, ◌<◌, ◌≤◌, inl, inr, Bool, true, false, ◌||◌, List, [], ◌∷◌, ◌++◌, length, map, get_or, refl, sym, ap, ◌∙◌, subst, arith, eqb-true, true≢false}
use Rattle.std.proofs.lemmas.List.{map-append, length-map}
use Rattle.life_base.specs.Tree.{Tree, is_blank_tree}
use Rattle.life_quad.specs.Store.{two, four, eight}
use Rattle.life_forms.specs.Corners.{with_leaf}
use Rattle.life_writer.specs.Listing.{is_in, number_of_quarter, place, same_tree}
use Rattle.life_writer.proofs.ListFacts.{place-below, place-last, with_new-fresh, with_new-known}
use Rattle.life_pattern.proofs.Trees.{bool_cases, four_parts}
use Rattle.life_writer.proofs.SameTrees.{same_tree-refl}

-- ---- equal leaves have equal cells

two-one : (m n : ℕ) → m < 16 → n < 16 → same_tree (two m) (two n) ≡ true → m ≡ n
two-one m n l k h =
    let q = four_parts _ _ _ _ h in
    let a : m / 8 ≡ n / 8 = eqb-true _ _ q.first in
    let b : m / 4 % 2 ≡ n / 4 % 2 = eqb-true _ _ q.second in
    let c : m / 2 % 2 ≡ n / 2 % 2 = eqb-true _ _ q.third in
    let d : m % 2 ≡ n % 2 = eqb-true _ _ q.fourth in
    omega (arith, a, b, c, d)

four-one : (m n : ℕ) → m < 65536 → n < 65536 → same_tree (four m) (four n) ≡ true → m ≡ n
four-one m n l k h =
    let q = four_parts _ _ _ _ h in
    let a = two-one (m / 4096) (n / 4096) (omega (arith, l)) (omega (arith, k)) q.first in
    let b = two-one (m / 256 % 16) (n / 256 % 16) (omega arith) (omega arith) q.second in
    let c = two-one (m / 16 % 16) (n / 16 % 16) (omega arith) (omega arith) q.third in
    let d = two-one (m % 16) (n % 16) (omega arith) (omega arith) q.fourth in
    omega (arith, a, b, c, d)

eight-one : (m n : ℕ) → m < 2 ^ 64 → n < 2 ^ 64 → same_tree (eight m) (eight n) ≡ true → m ≡ n
eight-one m n l k h =
    let q = four_parts _ _ _ _ h in
    let a = four-one (m / 281474976710656) (n / 281474976710656) (omega (arith, l)) (omega (arith, k)) q.first in
    let b = four-one (m / 4294967296 % 65536) (n / 4294967296 % 65536) (omega arith) (omega arith) q.second in
    let c = four-one (m / 65536 % 65536) (n / 65536 % 65536) (omega arith) (omega arith) q.third in
    let d = four-one (m % 65536) (n % 65536) (omega arith) (omega arith) q.fourth in
    omega (arith, a, b, c, d)

-- ---- the place of a leaf

other-leaf : (m n : ℕ) → m < 2 ^ 64 → n < 2 ^ 64 → m ≢ n → same_tree (eight m) (eight n) ≡ false
other-leaf m n l k other = elim (bool_cases (same_tree (eight m) (eight n))) [
  | inl e ↦ absurd (other (eight-one m n l k e))
  | inr e ↦ e
]

same-leaf : (m n : ℕ) → m ≡ n → same_tree (eight m) (eight n) ≡ true
same-leaf m n e = subst (λ (i : ℕ). same_tree (eight m) (eight i) ≡ true) e (same_tree-refl (eight m))

place-here : (s : Tree) (ss : List Tree) (t : Tree) → same_tree s t ≡ true → 0 ≡ place (s ∷ ss) t
place-here s ss t e = rw e refl

place-behind : (s : Tree) (ss : List Tree) (t : Tree) → same_tree s t ≡ false → suc (place ss t) ≡ place (s ∷ ss) t
place-behind s ss t e = rw e refl

-- the place of the first leaf with these cells, or the end
pub leaf-place : (words : List ℕ) (leaf at : ℕ) → ((k : ℕ) → k < length words → get_or words k 0 < 2 ^ 64) → leaf < 2 ^ 64 → at ≤ length words
    → ((k : ℕ) → k < at → get_or words k 0 ≢ leaf) → (at < length words → get_or words at 0 ≡ leaf) → at ≡ place (map eight words) (eight leaf)
leaf-place [] leaf at fits low le below here = omega (arith, le)
leaf-place (w ∷ ws) leaf zero fits low le below here =
    place-here (eight w) (map eight ws) (eight leaf) (same-leaf w leaf (here (omega arith)))
leaf-place (w ∷ ws) leaf (suc n) fits low le below here =
    ap suc (leaf-place ws leaf n (λ k l. fits (suc k) (omega (arith, l))) low (omega (arith, le)) (λ k l. below (suc k) (omega (arith, l)))
    (λ l. here (omega (arith, l))))
    ∙ place-behind (eight w) (map eight ws) (eight leaf) (other-leaf w leaf (fits 0 (omega arith)) low (below 0 (omega arith)))

-- ---- its number

out-of-list : (known : List Tree) (t : Tree) → is_in known t ≡ false → place known t ≡ length known
out-of-list [] t e = refl
out-of-list (s ∷ ss) t e =
    let p = both-false (same_tree s t) (is_in ss t) e in
    sym (place-behind s ss t p.0) ∙ ap suc (out-of-list ss t p.1)
  where
    both-false : (a b : Bool) → (a || b) ≡ false → (a ≡ false) × (b ≡ false)
    both-false false b e = (refl, e)
    both-false true b e = absurd (true≢false e)

in-list : (known : List Tree) (t : Tree) → place known t < length known → is_in known t ≡ true
in-list known t l = elim (bool_cases (is_in known t)) [
  | inl e ↦ e
  | inr e ↦ (let end = out-of-list known t e in absurd (omega (arith, l, end)))
]

not-in-list : (known : List Tree) (t : Tree) → length known ≤ place known t → is_in known t ≡ false
not-in-list known t l = elim (bool_cases (is_in known t)) [
  | inl e ↦ (let below = place-below known t e in absurd (omega (arith, l, below)))
  | inr e ↦ e
]

pub known-leaf : (known : List Tree) (leaf : ℕ) → is_blank_tree (eight leaf) ≡ false → place known (eight leaf) < length known
    → known ≡ with_leaf known (eight leaf)
known-leaf known leaf live l = rw live (sym (with_new-known known (eight leaf) (in-list known (eight leaf) l)))

pub known-number : (known : List Tree) (leaf : ℕ) → is_blank_tree (eight leaf) ≡ false → place known (eight leaf) + 1 ≡ number_of_quarter known (eight leaf)
known-number known leaf live = rw live (omega arith)

pub new-leaf : (words : List ℕ) (leaf : ℕ) → is_blank_tree (eight leaf) ≡ false → length words ≤ place (map eight words) (eight leaf)
    → map eight (words ++ leaf ∷ []) ≡ with_leaf (map eight words) (eight leaf)
new-leaf words leaf live l =
    let known = map eight words in
    let long : length known ≡ length words = simp length-map in
    map-append eight words (leaf ∷ []) ∙ (rw live (sym (with_new-fresh known (eight leaf) (not-in-list known (eight leaf) (omega (arith, l, long))))))

pub new-number : (words : List ℕ) (leaf : ℕ) → is_blank_tree (eight leaf) ≡ false → length words ≤ place (map eight words) (eight leaf)
    → place (map eight words) (eight leaf) + 1 ≡ number_of_quarter (map eight (words ++ leaf ∷ [])) (eight leaf)
new-number words leaf live l =
    let known = map eight words in
    let long : length known ≡ length words = simp length-map in
    let absent = not-in-list known (eight leaf) (omega (arith, l, long)) in
    let here : place known (eight leaf) ≡ length known = out-of-list known (eight leaf) absent in
    let there : place (known ++ eight leaf ∷ []) (eight leaf) ≡ length known = place-last known (eight leaf) absent in
    ap (λ (n : ℕ). n + 1) (here ∙ sym there) ∙ known-number (known ++ eight leaf ∷ []) leaf live
    ∙ ap (λ (all : List Tree). number_of_quarter all (eight leaf)) (sym (map-append eight words (leaf ∷ [])))

pub place-most : (known : List Tree) (t : Tree) → place known t ≤ length known
place-most known t = elim (bool_cases (is_in known t)) [
  | inl e ↦ (let below = place-below known t e in omega (arith, below))
  | inr e ↦ (let end = out-of-list known t e in omega (arith, end))
]

-- ---- as the code finds them: the place that it has found, and the end of the list

module _ (words read : List ℕ) (leaf at end count : ℕ) (live : is_blank_tree (eight leaf) ≡ false) (found : at ≡ place (map eight read) (eight leaf))
    (value : read ≡ words) (long : length read ≡ count) (is_end : end ≡ count) where
  there : at ≡ place (map eight words) (eight leaf)
  there = found ∙ ap (λ (l : List ℕ). place (map eight l) (eight leaf)) value

  length-is : length words ≡ end
  length-is = ap length (sym value) ∙ long ∙ sym is_end

  pub old-listed : at < end → map eight words ≡ with_leaf (map eight words) (eight leaf)
  old-listed l =
      let same = length-is in
      let p = there in
      let mapped : length (map eight words) ≡ length words = simp length-map in
      known-leaf (map eight words) leaf live (omega (arith, l, same, p, mapped))

  pub old-numbered : at + 1 ≡ number_of_quarter (map eight words) (eight leaf)
  old-numbered = ap (λ (n : ℕ). n + 1) there ∙ known-number (map eight words) leaf live

  pub new-listed : (more : List ℕ) → more ≡ words ++ leaf ∷ [] → end ≤ at → map eight more ≡ with_leaf (map eight words) (eight leaf)
  new-listed more is l =
      let same = length-is in
      let p = there in
      ap (map eight) is ∙ new-leaf words leaf live (omega (arith, l, same, p))

  pub new-numbered : (more : List ℕ) → more ≡ words ++ leaf ∷ [] → end ≤ at → at + 1 ≡ number_of_quarter (map eight more) (eight leaf)
  new-numbered more is l =
      let same = length-is in
      let p = there in
      ap (λ (n : ℕ). n + 1) p ∙ new-number words leaf live (omega (arith, l, same, p))
      ∙ ap (λ (l : List ℕ). number_of_quarter (map eight l) (eight leaf)) (sym is)

  pub at-most : at ≤ end
  at-most =
      let same = length-is in
      let p = there in
      let mapped : length (map eight words) ≡ length words = simp length-map in
      let most = place-most (map eight words) (eight leaf) in
      omega (arith, same, p, mapped, most)
