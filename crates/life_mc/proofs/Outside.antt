-- The cells outside the plane.
use Rattle.std.proofs.Common.{◌≡◌, ℕ, ◌+◌, ◌-◌, ◌^◌, ◌≤◌, suc, List, [], ◌∷◌, length, take, map, Bool, true, false, cond, ◌&&◌, ◌⊎◌, inl, inr, refl, ap, sym, ◌∙◌, arith, nat_lt, ℤ, pos, negsuc, neg_ℤ, ◌+ℤ◌, ◌≤ℤ◌, ◌<ℤ◌}
use Rattle.std.proofs.lemmas.Bool.Decides.{nat_tests}
use Rattle.std.proofs.lemmas.Int.{ints}
use Rattle.std.proofs.Math.Pow.{pow_mono}
use Rattle.life_base.specs.declared.rule.Rule.{Rule}
use Rattle.life_mc.specs.Accepted.{IsOutsideMacrocellPlane, MacrocellsAreBlankOutside}
use Rattle.life_mc.specs.Cells.{cell_from, cell_of, root_level}
use Rattle.life_mc.specs.Macrocell.{AreSquares, IsSquare, level_of}
use Rattle.life_mc.specs.declared.line.Line.{Line}
use Rattle.life_mc.specs.declared.line.Line.TheVariants.{Leaf, Quad}
use Rattle.life_mc.proofs.Squares.{root_at, some_level}
use Rattle.life_base.proofs.Basics.{double}

-- a square has at most the greatest level
at_most : (top : ℕ) → 3 ≤ top → (rule : Rule) (levels : List ℕ) (line : Line) → IsSquare top rule levels line → level_of line ≤ top
at_most top h rule levels (Leaf rows) s = h
at_most top h rule levels (Quad level nw ne sw se) s = s.1

-- a coordinate beyond the edge is no column or row of a square around the middle
beyond : (x : ℤ) (half edge wide c : ℕ) → half ≤ edge → wide ≡ half + half → x +ℤ pos half ≡ pos c → (x <ℤ neg_ℤ (pos edge)) ⊎ (pos edge ≤ℤ x)
    → nat_lt c wide ≡ false
beyond x half edge wide c l w e (inl b) = absurd (omega (arith, ints, b))
beyond x half edge wide c l w e (inr b) = let far : wide ≤ c = omega (arith, ints, b) in grind (arith, nat_tests)

no_first : (w : Bool) (n : ℕ) (v : Bool) → v ≡ false → cond (v && w) n 0 ≡ 0
no_first w n true h = cc
no_first w n false h = refl

no_second : (v : Bool) (n : ℕ) (w : Bool) → w ≡ false → cond (v && w) n 0 ≡ 0
no_second true n true h = cc
no_second true n false h = refl
no_second false n w h = refl

module _ (lines : List Line) (level half edge : ℕ) (l : half ≤ edge) (w : 2 ^ level ≡ half + half) where
  abbrev Beyond : ℤ → Type 0
  Beyond z = (z <ℤ neg_ℤ (pos edge)) ⊎ (pos edge ≤ℤ z)

  blank_at : (x y a b : ℤ) → x +ℤ pos half ≡ a → y +ℤ pos half ≡ b → Beyond x ⊎ Beyond y → cell_from lines level a b ≡ 0
  blank_at x y (negsuc c) b e f o = refl
  blank_at x y (pos c) (negsuc r) e f o = refl
  blank_at x y (pos c) (pos r) e f (inl o) = no_first (nat_lt r (2 ^ level)) _ (nat_lt c (2 ^ level)) (beyond x half edge (2 ^ level) c l w e o)
  blank_at x y (pos c) (pos r) e f (inr o) = no_second (nat_lt c (2 ^ level)) _ (nat_lt r (2 ^ level)) (beyond y half edge (2 ^ level) r l w f o)

abbrev Either : ℕ → ℤ → ℤ → Type 0
Either edge x y = ((x <ℤ neg_ℤ (pos edge)) ⊎ (pos edge ≤ℤ x)) ⊎ ((y <ℤ neg_ℤ (pos edge)) ⊎ (pos edge ≤ℤ y))

sides : (top : ℕ) (x y : ℤ) → IsOutsideMacrocellPlane top x y → Either (2 ^ (top - 1)) x y
sides top x y (inl o) = inl (inl o)
sides top x y (inr (inl o)) = inl (inr o)
sides top x y (inr (inr (inl o))) = inr (inl o)
sides top x y (inr (inr (inr o))) = inr (inr o)

blank : (top : ℕ) → 3 ≤ top → (rule : Rule) (lines : List Line) → AreSquares top rule lines → (x y : ℤ) → IsOutsideMacrocellPlane top x y → cell_of lines x y
    ≡ 0
blank top h rule [] valid x y o = refl
blank top h rule (line ∷ lines) valid x y o =
    let r = root_at line lines in
    let level = root_level (line ∷ lines) in
    let square : IsSquare top rule (map level_of (take (length lines) (line ∷ lines))) r.0 = valid (length lines) r.0 r.1 in
    let some : 1 ≤ level = omega (arith, some_level top rule (map level_of (take (length lines) (line ∷ lines))) r.0 square, r.2) in
    let within : level ≤ top = omega (arith, at_most top h rule (map level_of (take (length lines) (line ∷ lines))) r.0 square, r.2) in
    let wide : 2 ^ level ≡ 2 ^ (level - 1) + 2 ^ (level - 1) = whole level some in
    blank_at (line ∷ lines) level (2 ^ (level - 1)) (2 ^ (top - 1)) (pow_mono (omega arith)) wide x y (x +ℤ pos (2 ^ (level - 1))) (y +ℤ pos (2 ^ (level - 1)))
    refl refl (sides top x y o)
  where
    whole : (n : ℕ) → 1 ≤ n → 2 ^ n ≡ 2 ^ (n - 1) + 2 ^ (n - 1)
    whole n s = let e : suc (n - 1) ≡ n = omega arith in ap (λ m. 2 ^ m) (sym e) ∙ double (n - 1)

pub blank_outside : (top : ℕ) → 3 ≤ top → MacrocellsAreBlankOutside top
blank_outside top h = λ file x y v o. blank top h file.rule file.lines v.squares x y o
