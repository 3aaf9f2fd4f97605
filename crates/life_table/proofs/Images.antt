-- The images of a symmetry are turns by multiples of a step, and their reflections.
use Rattle.std.proofs.Common.{◌≡◌, ℕ, ◌*◌, ◌<◌, ◌≤◌, ◌∷◌, ◌++◌, List, map, length, Bool, true, false, ap, sym, ◌∙◌, subst, arith, [], Contains}
use Rattle.std.proofs.Math.Nat.{div_self, zero-mul}
use Rattle.std.specs.List.{range_with_len}
use Rattle.life_table.specs.Orders.{turn, turns, reflected_turn, reflected_turns, family, images}
use Rattle.life_table.specs.Meaning.{Gives, GivesAs, GivesByCounts}
use Rattle.life_table.specs.Found.{IsFoundOf, SomeGives}
use Rattle.life_table.specs.Valid.{neighbour_count}
use Rattle.life_base.proofs.Members.{from_map}
use Rattle.life_table.proofs.Adding.{directives_same}
use Rattle.life_table.proofs.LawProofs.{permute_law}
use Rattle.life_table.specs.declared.found.Found.{Found}
use Rattle.life_table.specs.declared.table.Neighborhood.{Neighborhood}
use Rattle.life_table.specs.declared.table.Neighborhood.TheVariants.{VonNeumann, Moore}
use Rattle.life_table.specs.declared.table.Symmetry.{Symmetry}
use Rattle.life_table.specs.declared.table.Symmetry.TheVariants.{Identity, ReflectHorizontal, Permute}
use Rattle.life_table.specs.declared.table.Var.{Var}
use Rattle.life_table.specs.declared.table.Transition.{Transition}
use Rattle.life_base.proofs.Basics.{contains-map}

pub four_or_eight : (n : Neighborhood) → (4 ≤ neighbour_count n) × (neighbour_count n ≤ 8)
four_or_eight VonNeumann = (omega arith, omega arith)
four_or_eight Moore = (omega arith, omega arith)

pub tells_permute : (vars : List Var) (line : Transition) (centre : ℕ) (others : List ℕ) (found : Found)
    → IsFoundOf (GivesByCounts vars line centre others) found
    → IsFoundOf (Gives Permute vars line centre others) found
tells_permute vars line centre others found h =
    directives_same (GivesByCounts vars line centre others) (Gives Permute vars line centre others)
    (λ s g. (permute_law vars line centre others s).1 g) (λ s g. (permute_law vars line centre others s).0 g) found h

once : (v : List ℕ) → 0 < length v → turns v (length v) ≡ turn v 0 ∷ []
once v h = ap (λ m. map (λ k. turn v (k * length v)) (range_with_len 0 m)) (div_self h) ∙ ap (λ z. turn v z ∷ []) (zero-mul (length v))

once_reflected : (v : List ℕ) → 0 < length v → reflected_turns v (length v) ≡ reflected_turn v 0 ∷ []
once_reflected v h = ap (λ m. map (λ k. reflected_turn v (k * length v)) (range_with_len 0 m)) (div_self h)
    ∙ ap (λ z. reflected_turn v z ∷ []) (zero-mul (length v))

pub identity_family : (v : List ℕ) → 0 < length v → images Identity v ≡ family false (length v) v
identity_family v h = sym (once v h)

pub horizontal_family : (v : List ℕ) → 0 < length v → images ReflectHorizontal v ≡ family true (length v) v
horizontal_family v h = let a = once v h in let b = once_reflected v h in
    ap (λ ws. ws ++ reflected_turn v 0 ∷ []) (sym a) ∙ ap (λ ws. turns v (length v) ++ ws) (sym b)

-- the images of one sort, by the step and the reflection that were chosen for it
pub family_is : (symmetry sort : Symmetry) → symmetry ≡ sort → (v : List ℕ) (chosen : ℕ × Bool) (step : ℕ) (reflect : Bool) → chosen ≡ (step, reflect) →
    images sort v ≡ family reflect step v → images symmetry v ≡ family chosen.1 chosen.0 v
family_is symmetry sort is v chosen step reflect same are = ap (λ y. images y v) is ∙ are ∙ sym (ap (λ (p : ℕ × Bool). family p.1 p.0 v) same)

-- what the images give is what the line gives
pub tells_images : (symmetry : Symmetry) (vars : List Var) (line : Transition) (centre : ℕ) (others : List ℕ) (list : List (List ℕ)) (found : Found) →
    list ≡ map (λ w. centre ∷ w) (images symmetry others) → IsFoundOf (SomeGives vars line list) found
    → IsFoundOf (Gives symmetry vars line centre others) found
tells_images symmetry vars line centre others list found are h =
    directives_same (SomeGives vars line list) (Gives symmetry vars line centre others)
    (λ s g.
    let u = from_map (λ w. centre ∷ w) (images symmetry others) g.image (subst (λ ws. Contains ws g.image) are g.is_image) in
    record { image = u.0; is_image = u.1; gives = subst (λ w. GivesAs vars line w s) (sym u.2) g.gives })
    (λ s g. record {
      image = centre ∷ g.image;
      is_image = subst (λ ws. Contains ws (centre ∷ g.image)) (sym are) (contains-map (λ w. centre ∷ w) (images symmetry others) g.image g.is_image);
      gives = g.gives;
    })
    found h
