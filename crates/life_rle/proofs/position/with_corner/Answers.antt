use Rattle.std.proofs.Common.{◌≡◌, ◌^◌, ◌-◌, ℕ, true, false, Ok, Result, List, sym, ap, ◌∙◌, arith, ℤ, pos, neg_ℤ, ◌≤ℤ◌, w64, to_z, of_z}
use Rattle.std.proofs.lemmas.Int.{ints, to_z-of_z}
use Rattle.life_base.specs.declared.kind.Kind.{Kind}
use Rattle.life_base.specs.declared.cell.TheConstants.{MAX_LEVEL}
use Rattle.life_rle.specs.declared.position.Position.{Position}
use Rattle.life_rle.specs.Plane.{is_coordinate}
use Rattle.life_rle.specs.Position.{Field, signed_number, position_with_field, and_then, corner_of}
use Rattle.life_rle.proofs.Fields.{corner-no_second, corner-left, corner-right, corner-inside}
use Rattle.life_rle.proofs.position.with_corner.Goals as goal

same_z : (z : ℤ) → (neg_ℤ (pos (2 ^ 63)) ≤ℤ z) × (z ≤ℤ pos (2 ^ 63 - 1)) → to_z w64 (of_z w64 z) ≡ z
same_z z h = grind (arith, ints, to_z-of_z)

abbrev made : ℤ → ℤ → ℕ → Position
made x y g = record { x = x; y = y; generation = g }

abbrev then : Position → Field → Result Position Kind
then position found = Ok (position_with_field position found)

-- the two parts of the text are the parts of the definition
parts : (a b a' b' : List ℕ) (f : Field → Result Position Kind) → a ≡ a' → b ≡ b' → and_then (corner_of MAX_LEVEL (signed_number a) (signed_number b)) f
    ≡ and_then (corner_of MAX_LEVEL (signed_number a') (signed_number b')) f
parts a b a' b' f e g = ap (λ t. and_then (corner_of MAX_LEVEL (signed_number t) (signed_number b)) f) e
    ∙ ap (λ t. and_then (corner_of MAX_LEVEL (signed_number a') (signed_number t)) f) g

pub returns-in_default-signed_number : goal.returns-in_default-signed_number
returns-in_default-signed_number c =
    let F : Field → Result Position Kind = then c.args.position in
    let p = c.split_at_comma.result in
    let e = c.split_at_comma.ensures in
    sym (corner-no_second MAX_LEVEL c.in-Some.x (signed_number p.0.now) (signed_number p.1.now) F c.in-Some.ensures.value
    c.in_default-signed_number.ensures.value)
    ∙ parts p.0.now p.1.now _ _ F e.before e.after

pub returns-then-not-is_coordinate : goal.returns-then-not-is_coordinate
returns-then-not-is_coordinate c =
    let F : Field → Result Position Kind = then c.args.position in
    let p = c.split_at_comma.result in
    let e = c.split_at_comma.ensures in
    let out : is_coordinate MAX_LEVEL c.in-Some.x ≡ false = ap (is_coordinate MAX_LEVEL) (sym (same_z c.in-Some.x c.in-Some.ensures.small))
    ∙ sym c.if-not-is_coordinate.ensures in
    sym (corner-left MAX_LEVEL c.in-Some.x c.in-Some-signed_number.y (signed_number p.0.now) (signed_number p.1.now) F c.in-Some.ensures.value
    c.in-Some-signed_number.ensures.value out)
    ∙ parts p.0.now p.1.now _ _ F e.before e.after

pub returns-then-not-is_coordinate-2 : goal.returns-then-not-is_coordinate-2
returns-then-not-is_coordinate-2 c =
    let F : Field → Result Position Kind = then c.args.position in
    let p = c.split_at_comma.result in
    let e = c.split_at_comma.ensures in
    let out : is_coordinate MAX_LEVEL c.in-Some-signed_number.y ≡ false = ap (is_coordinate MAX_LEVEL)
    (sym (same_z c.in-Some-signed_number.y c.in-Some-signed_number.ensures.small)) ∙ sym c.if-not-is_coordinate-2.ensures in
    sym (corner-right MAX_LEVEL c.in-Some.x c.in-Some-signed_number.y (signed_number p.0.now) (signed_number p.1.now) F c.in-Some.ensures.value
    c.in-Some-signed_number.ensures.value out)
    ∙ parts p.0.now p.1.now _ _ F e.before e.after

pub returns : goal.returns
returns c =
    let F : Field → Result Position Kind = then c.args.position in
    let p = c.split_at_comma.result in
    let e = c.split_at_comma.ensures in
    let x : ℤ = c.in-Some.x in
    let y : ℤ = c.in-Some-signed_number.y in
    let ex = same_z x c.in-Some.ensures.small in
    let ey = same_z y c.in-Some-signed_number.ensures.small in
    let cx : is_coordinate MAX_LEVEL x ≡ true = ap (is_coordinate MAX_LEVEL) (sym ex) ∙ sym c.if-not-is_coordinate.ensures in
    let cy : is_coordinate MAX_LEVEL y ≡ true = ap (is_coordinate MAX_LEVEL) (sym ey) ∙ sym c.if-not-is_coordinate-2.ensures in
    ap (λ z. Ok (made z (to_z w64 (of_z w64 y)) c.args.position.generation)) ex ∙ ap (λ z. Ok (made x z c.args.position.generation)) ey
    ∙ sym (corner-inside MAX_LEVEL x y (signed_number p.0.now) (signed_number p.1.now) F c.in-Some.ensures.value c.in-Some-signed_number.ensures.value cx cy)
    ∙ parts p.0.now p.1.now _ _ F e.before e.after
