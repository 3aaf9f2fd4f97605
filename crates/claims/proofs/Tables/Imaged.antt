-- The orders that a symmetry lists are those of the layer, where its word is listed for so many neighbours, and each is as long.
use Rattle.std.proofs.Common.{◌≡◌, ℕ, zero, suc, List, [], ◌∷◌, ◌++◌, length, map, Bool, true, refl, ap, ◌∙◌, sym, subst, arith, eqb-true, eq-eqb, IsTrue, Contains, flat_map, slice_index, slice_index_or, ◌<◌, ◌==◌}
use Rattle.std.specs.List.{list_all}
use Rattle.std.proofs.lemmas.Bool.Decides.{nat_tests}
use Rattle.std.proofs.lemmas.Bool.{and_from}
use Rattle.life_base.proofs.Basics.{right_of_and, left_of_and}
use Rattle.life_table.specs.Grammar.{symmetry_word}
use Rattle.life_table.specs.Orders.{images as layer_images, orders as layer_orders, insertions as layer_insertions}
use Rattle.life_table.specs.Valid.{is_listed, neighbour_count}
use Rattle.life_table.specs.declared.table.Neighborhood.{Neighborhood}
use Rattle.life_table.specs.declared.table.Neighborhood.TheVariants.{VonNeumann, Moore}
use Rattle.life_table.specs.declared.table.Symmetry.{Symmetry}
use Rattle.life_table.specs.declared.table.Symmetry.TheVariants.{Identity, Rotate4, Rotate4Reflect, ReflectHorizontal, Permute, Rotate8, Rotate8Reflect}
use Rattle.claims.specs.Table.{claimed_images, claimed_orders, claimed_insertions}

-- ---- lists by their elements

four_of : (v : List ℕ) → length v ≡ 4 → v ≡ slice_index v 0 ∷ slice_index v 1 ∷ slice_index v 2 ∷ slice_index v 3 ∷ []
four_of (a ∷ b ∷ c ∷ d ∷ []) l = refl
four_of v l = absurd (omega (arith, l))

eight_of : (v : List ℕ) → length v ≡ 8
    → v ≡ slice_index v 0 ∷ slice_index v 1 ∷ slice_index v 2 ∷ slice_index v 3 ∷ slice_index v 4 ∷ slice_index v 5 ∷ slice_index v 6 ∷ slice_index v 7 ∷ []
eight_of (a ∷ b ∷ c ∷ d ∷ e ∷ f ∷ g ∷ h ∷ []) l = refl
eight_of v l = absurd (omega (arith, l))

-- ---- every order

insertions_are : (x : ℕ) (ys : List ℕ) → claimed_insertions x ys ≡ layer_insertions x ys
insertions_are x [] = refl
insertions_are x (y ∷ ys) = ap (λ (t : List (List ℕ)). (x ∷ y ∷ ys) ∷ map (λ zs. y ∷ zs) t) (insertions_are x ys)

inserted_are : (x : ℕ) (vs : List (List ℕ)) → flat_map (claimed_insertions x) vs ≡ flat_map (layer_insertions x) vs
inserted_are x [] = refl
inserted_are x (v ∷ vs) = ap (λ (t : List (List ℕ)). t ++ flat_map (claimed_insertions x) vs) (insertions_are x v)
    ∙ ap (λ (t : List (List ℕ)). layer_insertions x v ++ t) (inserted_are x vs)

orders_are : (v : List ℕ) → claimed_orders v ≡ layer_orders v
unfolding layer_orders
orders_are [] = refl
orders_are (x ∷ xs) = inserted_are x (claimed_orders xs) ∙ ap (flat_map (layer_insertions x)) (orders_are xs)

-- ---- lengths

abbrev pub have_length : ℕ → List (List ℕ) → Bool
have_length n vs = list_all (λ v. length v == n) vs

in_prefix : (n y : ℕ) (vs : List (List ℕ)) → have_length n vs ≡ true → have_length (suc n) (map (λ v. y ∷ v) vs) ≡ true
in_prefix n y [] h = refl
in_prefix n y (v ∷ vs) h =
    and_from (suc (length v) == suc n) _ (one_more (length v) n ∙ left_of_and (length v == n) _ h) (in_prefix n y vs (right_of_and (length v == n) _ h))
  where
    one_more : (a b : ℕ) → (suc a == suc b) ≡ (a == b)
    one_more a b = grind (arith, nat_tests)

have_both : (n : ℕ) (vs ws : List (List ℕ)) → have_length n vs ≡ true → have_length n ws ≡ true → have_length n (vs ++ ws) ≡ true
have_both n [] ws h k = k
have_both n (v ∷ vs) ws h k = and_from (length v == n) _ (left_of_and (length v == n) _ h) (have_both n vs ws (right_of_and (length v == n) _ h) k)

insertions_have : (x : ℕ) (ys : List ℕ) → have_length (suc (length ys)) (claimed_insertions x ys) ≡ true
insertions_have x [] = refl
insertions_have x (y ∷ ys) =
    and_from (suc (suc (length ys)) == suc (suc (length ys))) _ (eq-eqb (suc (suc (length ys))) (suc (suc (length ys))) refl)
    (in_prefix (suc (length ys)) y (claimed_insertions x ys) (insertions_have x ys))

inserted_have : (n x : ℕ) (vs : List (List ℕ)) → have_length n vs ≡ true → have_length (suc n) (flat_map (claimed_insertions x) vs) ≡ true
inserted_have n x [] h = refl
inserted_have n x (v ∷ vs) h =
    have_both (suc n) (claimed_insertions x v) (flat_map (claimed_insertions x) vs)
    (subst (λ m. have_length (suc m) (claimed_insertions x v) ≡ true) (eqb-true (length v) n (left_of_and (length v == n) _ h)) (insertions_have x v))
    (inserted_have n x vs (right_of_and (length v == n) _ h))

orders_have : (v : List ℕ) → have_length (length v) (claimed_orders v) ≡ true
orders_have [] = refl
orders_have (x ∷ xs) = inserted_have (length xs) x (claimed_orders xs) (orders_have xs)

has_length : (n : ℕ) (vs : List (List ℕ)) → have_length n vs ≡ true → (v : List ℕ) → Contains vs v → length v ≡ n
has_length n [] h v c = absurd (omega (arith, c.1))
has_length n (w ∷ vs) h v c = by c.0 c.1 c.2 (has_length n vs (right_of_and (length w == n) _ h) v)
  where
    by : (k : ℕ) → k < length (w ∷ vs) → slice_index_or (w ∷ vs) k v ≡ v → (Contains vs v → length v ≡ n) → length v ≡ n
    by zero l e below = ap length (sym e) ∙ eqb-true (length w) n (left_of_and (length w == n) _ h)
    by (suc k) l e below = below (k, omega (arith, l), e)

-- ---- the images

abbrev pub Agrees : Symmetry → List ℕ → Type 0
Agrees symmetry v = (claimed_images (symmetry_word symmetry) v ≡ layer_images symmetry v)
    × (have_length (length v) (claimed_images (symmetry_word symmetry) v) ≡ true)

four : (symmetry : Symmetry) → IsTrue (is_listed VonNeumann symmetry) → (a b c d : ℕ) → Agrees symmetry (a ∷ b ∷ c ∷ d ∷ [])
unfolding claimed_images
four Identity h a b c d = (refl, refl)
four Rotate4 h a b c d = (refl, refl)
four Rotate4Reflect h a b c d = (refl, refl)
four ReflectHorizontal h a b c d = (refl, refl)
four Permute h a b c d = (orders_are (a ∷ b ∷ c ∷ d ∷ []), orders_have (a ∷ b ∷ c ∷ d ∷ []))
four Rotate8 h a b c d = cc
four Rotate8Reflect h a b c d = cc

eight : (symmetry : Symmetry) (a b c d e f g h : ℕ) → Agrees symmetry (a ∷ b ∷ c ∷ d ∷ e ∷ f ∷ g ∷ h ∷ [])
unfolding claimed_images
eight Identity a b c d e f g h = (refl, refl)
eight Rotate4 a b c d e f g h = (refl, refl)
eight Rotate4Reflect a b c d e f g h = (refl, refl)
eight ReflectHorizontal a b c d e f g h = (refl, refl)
eight Permute a b c d e f g h = (orders_are (a ∷ b ∷ c ∷ d ∷ e ∷ f ∷ g ∷ h ∷ []), orders_have (a ∷ b ∷ c ∷ d ∷ e ∷ f ∷ g ∷ h ∷ []))
eight Rotate8 a b c d e f g h = (refl, refl)
eight Rotate8Reflect a b c d e f g h = (refl, refl)

pub images_agree : (symmetry : Symmetry) (neighborhood : Neighborhood) (v : List ℕ) → IsTrue (is_listed neighborhood symmetry)
    → length v ≡ neighbour_count neighborhood
    → Agrees symmetry v
images_agree symmetry VonNeumann v h l =
    subst (Agrees symmetry) (sym (four_of v l)) (four symmetry h (slice_index v 0) (slice_index v 1) (slice_index v 2) (slice_index v 3))
images_agree symmetry Moore v h l =
    subst (Agrees symmetry) (sym (eight_of v l))
    (eight symmetry (slice_index v 0) (slice_index v 1) (slice_index v 2) (slice_index v 3) (slice_index v 4) (slice_index v 5) (slice_index v 6)
    (slice_index v 7))

pub image_length : (symmetry : Symmetry) (v image : List ℕ) → Agrees symmetry v → Contains (layer_images symmetry v) image → length image ≡ length v
image_length symmetry v image h c =
    has_length (length v) (claimed_images (symmetry_word symmetry) v) h.1 image (subst (λ (t : List (List ℕ)). Contains t image) (sym h.0) c)
