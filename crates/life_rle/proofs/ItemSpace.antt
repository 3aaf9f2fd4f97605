-- Texts at the end of an item's space.
use Rattle.std.proofs.Common.{◌≡◌, ℕ, List, [], ◌∷◌, drop, length, refl, ap, ◌∙◌, arith, slice_set, length-drop}
use Rattle.std.proofs.lemmas.List.{drop-set, drop-set-add, nil_from_length}

last-one : (ys : List ℕ) (a b : ℕ) → length ys ≡ 1 → slice_set (a ∷ ys) 1 b ≡ a ∷ b ∷ []
last-one [] a b h = absurd (omega (arith, h))
last-one (y ∷ []) a b h = refl
last-one (y ∷ z ∷ ys) a b h = absurd (omega (arith, h))

-- one byte
pub space-byte : (space : List ℕ) (byte : ℕ) → length space ≡ 23 → drop 22 (slice_set space 22 byte) ≡ byte ∷ []
space-byte space byte h =
    let size = length-drop 23 space in
    drop-set space 22 byte (omega (arith, h)) ∙ ap (λ ys. byte ∷ ys) (nil_from_length (drop 23 space) (omega (arith, h, size)))

-- two bytes
pub space-pair : (space : List ℕ) (a b : ℕ) → length space ≡ 23 → drop 21 (slice_set (slice_set space 21 a) 22 b) ≡ a ∷ b ∷ []
space-pair space a b h =
    let size = length-drop 22 space in
    drop-set-add 21 (slice_set space 21 a) 1 b
    ∙ ap (λ ys. slice_set ys 1 b) (drop-set space 21 a (omega (arith, h)))
    ∙ last-one (drop 22 space) a b (omega (arith, h, size))
