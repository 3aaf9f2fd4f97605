-- Facts on the list of the squares of a square.
use Rattle.std.proofs.Common.{◌≡◌, suc, ◌<◌, ◌≤◌, Bool, true, false, ◌||◌, List, [], ◌∷◌, ◌++◌, length, get_or, refl, ap, sym, ◌∙◌, subst, arith, ◌⊎◌, inl, inr, if◌then◌else◌}
use Rattle.std.proofs.lemmas.Bool.{or_cases, or_left, or_right, or_parts, or_from}
use Rattle.life_base.specs.Tree.{Tree}
use Rattle.life_writer.specs.Listing.{same_tree, is_in, with_new, with_all, place}
use Rattle.life_pattern.proofs.Trees.{bool_cases}
use Rattle.life_writer.proofs.SameTrees.{same_tree-refl, same_tree-true}
use Rattle.life_base.proofs.Basics.{true_false}

-- ---- members

pub is_in-left : (xs ys : List Tree) (t : Tree) → is_in xs t ≡ true → is_in (xs ++ ys) t ≡ true
is_in-left [] ys t h = absurd (true_false false h refl)
is_in-left (x ∷ xs) ys t h = elim (or_cases (same_tree x t) (is_in xs t) h) [
  | inl e ↦ or_left _ _ e
  | inr e ↦ or_right (same_tree x t) _ (is_in-left xs ys t e)
]

pub is_in-right : (xs ys : List Tree) (t : Tree) → is_in ys t ≡ true → is_in (xs ++ ys) t ≡ true
is_in-right [] ys t h = h
is_in-right (x ∷ xs) ys t h = or_right (same_tree x t) _ (is_in-right xs ys t h)

pub is_in-append_cases : (xs ys : List Tree) (t : Tree) → is_in (xs ++ ys) t ≡ true → (is_in xs t ≡ true) ⊎ (is_in ys t ≡ true)
is_in-append_cases [] ys t h = inr h
is_in-append_cases (x ∷ xs) ys t h = elim (or_cases (same_tree x t) (is_in (xs ++ ys) t) h) [
  | inl e ↦ inl (or_left _ _ e)
  | inr e ↦ elim (is_in-append_cases xs ys t e) [ inl f ↦ inl (or_right (same_tree x t) _ f) | inr f ↦ inr f ]
]

pub is_in-last : (xs : List Tree) (t : Tree) → is_in (xs ++ t ∷ []) t ≡ true
is_in-last xs t = is_in-right xs (t ∷ []) t (or_left _ false (same_tree-refl t))

-- one element alone
pub is_in-one : (s t : Tree) → is_in (s ∷ []) t ≡ true → s ≡ t
is_in-one s t h = elim (or_cases (same_tree s t) false h) [
  | inl e ↦ same_tree-true s t e
  | inr e ↦ absurd (true_false false e refl)
]

-- ---- the first place

pub rest_of : (a b : Bool) → (a || b) ≡ true → a ≡ false → b ≡ true
rest_of a b h e = grind arith

pub place-below : (xs : List Tree) (t : Tree) → is_in xs t ≡ true → place xs t < length xs
place-below [] t h = absurd (true_false false h refl)
place-below (x ∷ xs) t h = elim (bool_cases (same_tree x t)) [
  | inl e ↦ rw e (omega arith)
  | inr e ↦ rw e (let i = place-below xs t (rest_of (same_tree x t) (is_in xs t) h e) in omega arith)
]

pub place-is : (xs : List Tree) (t d : Tree) → is_in xs t ≡ true → get_or xs (place xs t) d ≡ t
place-is [] t d h = absurd (true_false false h refl)
place-is (x ∷ xs) t d h = elim (bool_cases (same_tree x t)) [
  | inl e ↦ rw e (same_tree-true x t e)
  | inr e ↦ rw e (place-is xs t d (rest_of (same_tree x t) (is_in xs t) h e))
]

pub place-append : (xs ys : List Tree) (t : Tree) → is_in xs t ≡ true → place (xs ++ ys) t ≡ place xs t
place-append [] ys t h = absurd (true_false false h refl)
place-append (x ∷ xs) ys t h = elim (bool_cases (same_tree x t)) [
  | inl e ↦ rw e refl
  | inr e ↦ rw e (ap suc (place-append xs ys t (rest_of (same_tree x t) (is_in xs t) h e)))
]

-- after a list in which it isn't, a square has the last place
pub place-last : (xs : List Tree) (t : Tree) → is_in xs t ≡ false → place (xs ++ t ∷ []) t ≡ length xs
place-last [] t h = rw (same_tree-refl t) refl
place-last (x ∷ xs) t h = let p = or_parts (same_tree x t) (is_in xs t) h in rw p.0 (ap suc (place-last xs t p.1))

-- ---- a list grows at its end

pub with_new-known : (xs : List Tree) (t : Tree) → is_in xs t ≡ true → with_new xs t ≡ xs
with_new-known xs t h = rw h refl

pub with_new-fresh : (xs : List Tree) (t : Tree) → is_in xs t ≡ false → with_new xs t ≡ xs ++ t ∷ []
with_new-fresh xs t h = rw h refl

pub with_all-append : (ks xs ys : List Tree) → with_all ks (xs ++ ys) ≡ with_all (with_all ks xs) ys
with_all-append ks [] ys = refl
with_all-append ks (x ∷ xs) ys = with_all-append (with_new ks x) xs ys

pub with_new-has : (ks : List Tree) (t : Tree) → is_in (with_new ks t) t ≡ true
with_new-has ks t = elim (bool_cases (is_in ks t)) [
  | inl e ↦ rw (with_new-known ks t e) e
  | inr e ↦ rw (with_new-fresh ks t e) (is_in-last ks t)
]

pub with_new-keeps : (ks : List Tree) (s t : Tree) → is_in ks t ≡ true → is_in (with_new ks s) t ≡ true
with_new-keeps ks s t h = elim (bool_cases (is_in ks s)) [
  | inl e ↦ rw (with_new-known ks s e) h
  | inr e ↦ rw (with_new-fresh ks s e) (is_in-left ks (s ∷ []) t h)
]

pub with_all-keeps : (ks xs : List Tree) (t : Tree) → is_in ks t ≡ true → is_in (with_all ks xs) t ≡ true
with_all-keeps ks [] t h = h
with_all-keeps ks (x ∷ xs) t h = with_all-keeps (with_new ks x) xs t (with_new-keeps ks x t h)

pub with_all-from : (ks xs : List Tree) (t : Tree) → is_in (with_all ks xs) t ≡ true → (is_in ks t ≡ true) ⊎ (is_in xs t ≡ true)
with_all-from ks [] t h = inl h
with_all-from ks (x ∷ xs) t h = elim (with_all-from (with_new ks x) xs t h) [
  | inl e ↦ elim (bool_cases (is_in ks x)) [
    | inl f ↦ inl (rw (with_new-known ks x f) at e)
    | inr f ↦ elim (is_in-append_cases ks (x ∷ []) t (rw (with_new-fresh ks x f) at e)) [
      | inl g ↦ inl g
      | inr g ↦ elim (or_cases (same_tree x t) false g) [ inl i ↦ inr (or_left _ _ i) | inr i ↦ absurd (true_false false i refl) ]
    ]
  ]
  | inr e ↦ inr (or_right (same_tree x t) _ e)
]

-- ---- no tree is there twice

abbrev pub NoRepeats : List Tree → Type 0
NoRepeats [] = Unit {0}
NoRepeats (t ∷ ts) = (is_in ts t ≡ false) × NoRepeats ts

not_in-snoc : (xs : List Tree) (t u : Tree) → is_in xs u ≡ false → same_tree t u ≡ false → is_in (xs ++ t ∷ []) u ≡ false
not_in-snoc [] t u h g = or_from _ false g refl
not_in-snoc (x ∷ xs) t u h g = let p = or_parts (same_tree x u) (is_in xs u) h in or_from _ _ p.0 (not_in-snoc xs t u p.1 g)

same_tree-other : (s t : Tree) → same_tree s t ≡ false → same_tree t s ≡ false
same_tree-other s t h = elim (bool_cases (same_tree t s)) [
  | inl e ↦ absurd (true_false _ (ap (same_tree s) (same_tree-true t s e) ∙ same_tree-refl s) h)
  | inr e ↦ e
]

pub NoRepeats-snoc : (xs : List Tree) (t : Tree) → NoRepeats xs → is_in xs t ≡ false → NoRepeats (xs ++ t ∷ [])
NoRepeats-snoc [] t h g = (refl, tt)
NoRepeats-snoc (x ∷ xs) t h g =
    let p = or_parts (same_tree x t) (is_in xs t) g in
    (not_in-snoc xs t x h.0 (same_tree-other x t p.0), NoRepeats-snoc xs t h.1 p.1)

pub with_new-once : (ks : List Tree) (t : Tree) → NoRepeats ks → NoRepeats (with_new ks t)
with_new-once ks t h = elim (bool_cases (is_in ks t)) [
  | inl e ↦ rw (with_new-known ks t e) h
  | inr e ↦ rw (with_new-fresh ks t e) (NoRepeats-snoc ks t h e)
]

pub with_all-once : (ks xs : List Tree) → NoRepeats ks → NoRepeats (with_all ks xs)
with_all-once ks [] h = h
with_all-once ks (x ∷ xs) h = with_all-once (with_new ks x) xs (with_new-once ks x h)

-- ---- pigeonhole: a list with no repeats, all of whose trees occur in another, is no longer

abbrev pub without : List Tree → Tree → List Tree
without [] t = []
without (x ∷ xs) t = if same_tree x t then xs else x ∷ without xs t

length-without : (xs : List Tree) (t : Tree) → is_in xs t ≡ true → suc (length (without xs t)) ≡ length xs
length-without [] t h = absurd (true_false false h refl)
length-without (x ∷ xs) t h = elim (bool_cases (same_tree x t)) [
  | inl e ↦ rw e refl
  | inr e ↦ rw e (ap suc (length-without xs t (rest_of (same_tree x t) (is_in xs t) h e)))
]

is_in-without : (xs : List Tree) (t u : Tree) → is_in xs u ≡ true → same_tree t u ≡ false → is_in (without xs t) u ≡ true
is_in-without [] t u h g = h
is_in-without (x ∷ xs) t u h g = elim (bool_cases (same_tree x t)) [
  | inl e ↦ rw e (elim (or_cases (same_tree x u) (is_in xs u) h) [
    | inl f ↦ absurd (true_false _ (ap (λ v. same_tree v u) (sym (same_tree-true x t e)) ∙ f) g)
    | inr f ↦ f
  ])
  | inr e ↦ rw e (elim (or_cases (same_tree x u) (is_in xs u) h) [
    | inl f ↦ or_left _ _ f
    | inr f ↦ or_right (same_tree x u) _ (is_in-without xs t u f g)
  ])
]

pub no_longer : (xs ys : List Tree) → NoRepeats xs → ((t : Tree) → is_in xs t ≡ true → is_in ys t ≡ true) → length xs ≤ length ys
no_longer [] ys h g = omega arith
no_longer (x ∷ xs) ys h g =
    let i = g x (or_left _ (is_in xs x) (same_tree-refl x)) in
    let e = length-without ys x i in
    let r : length xs ≤ length (without ys x) = no_longer xs (without ys x) h.1
    (λ t m. elim (bool_cases (same_tree x t)) [
      | inl f ↦ absurd (true_false _ m (subst (λ v. is_in xs v ≡ false) (same_tree-true x t f) h.0))
      | inr f ↦ is_in-without ys x t (g t (or_right (same_tree x t) _ m)) f
    ]) in
    omega arith
