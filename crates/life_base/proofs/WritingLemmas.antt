-- Texts written one after another.
use Rattle.std.proofs.Common.{◌≡◌, ℕ, ◌+◌, ◌<◌, List, ◌++◌, Bool, true, false, Option, length, take, drop, sym, ap, ◌∙◌, subst, arith, get_or, suc, drop-cons, refl, ◌==◌, ◌&&◌, ◌||◌, not, take-append-drop, length-append}
use Rattle.std.specs.List.{flat_map}
use Rattle.std.specs.Io.KnownBytes.{Appends}
use Rattle.std.proofs.KnownBytes.{Appends-trans}
use Rattle.std.proofs.lemmas.Grind.{flat_map-append}
use Rattle.std.proofs.lemmas.List.{take-append-le}
use Rattle.std.proofs.Math.Seq.{take-append-add}
use Rattle.std.proofs.lemmas.Bool.Decides.{nat_tests}
use Rattle.life_base.specs.Text.{is_empty}
use Rattle.life_base.specs.Writing.{WritesPrefix}

-- a prefix of a prefix is one of the whole
pub prefix-grows : (a b : Option (List ℕ)) (xs ys : List ℕ) → WritesPrefix a b xs → WritesPrefix a b (xs ++ ys)
prefix-grows a b xs ys w = record {
  count = w.count;
  within = let long = length-append xs ys in omega (arith, long, w.within);
  written = subst (Appends a b) (sym (take-append-le w.count xs ys w.within)) w.written;
}

-- a text that was written whole, and then a prefix of the next
pub prefix-after : (a b c : Option (List ℕ)) (xs ys : List ℕ) → Appends a b xs → WritesPrefix b c ys → WritesPrefix a c (xs ++ ys)
prefix-after a b c xs ys whole w = record {
  count = length xs + w.count;
  within = let long = length-append xs ys in omega (arith, long, w.within);
  written = subst (Appends a c) (sym (take-append-add xs ys w.count)) (Appends-trans a b c xs (take w.count ys) whole w.written);
}

-- what a list of lists holds, cut at an element
pub flat_map-split : {X : Type 0} (f : X → List ℕ) (xs : List X) (i : ℕ) (d : X) → i < length xs
    → flat_map f xs ≡ flat_map f (take i xs) ++ (f (get_or xs i d) ++ flat_map f (drop (suc i) xs))
flat_map-split f xs i d lt = ap (flat_map f) (sym (take-append-drop i xs)) ∙ flat_map-append f (take i xs) (drop i xs)
    ∙ ap (λ l. flat_map f (take i xs) ++ flat_map f l) (drop-cons xs i d lt)

by_test : (old v w : Bool) → v ≡ false → (old || (v && w)) ≡ old
by_test true v w h = refl
by_test false v w h = ap (λ u. u && w) h

-- a write that takes a byte does not stall
pub unstalled : (old : Bool) (count : ℕ) (bytes : List ℕ) → (count ≡ 0 → ⊥) → (old || (count == 0 && not (is_empty bytes))) ≡ old
unstalled old count bytes h = let e : (count == 0) ≡ false = grind (arith, nat_tests) in by_test old (count == 0) (not (is_empty bytes)) e
