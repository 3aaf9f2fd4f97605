-- The cells of a pattern that aren't 0 have one list.
use Rattle.std.proofs.Common.{◌≡◌, ℕ, suc, ◌<◌, List, [], ◌∷◌, length, refl, ◌∙◌, sym, subst, arith, ◌⊎◌, inl, inr, ℤ, Contains, AllPairs, ◌<ℤ◌}
use Rattle.std.proofs.lemmas.Int.{ints}
use Rattle.life_base.specs.declared.cell.Cell.{Cell}
use Rattle.claims.specs.Generation.{AreClaimedCells, HasMoreClaimedCells}
use Rattle.life_base.proofs.Members.{in_cases, in_tail, in_head}

abbrev Before : Cell → Cell → Type 0
Before a b = (a.y <ℤ b.y) ⊎ ((a.y ≡ b.y) × (a.x <ℤ b.x))

not_both : (a b c d : ℤ) → ((a <ℤ b) ⊎ ((a ≡ b) × (c <ℤ d))) → ((b <ℤ a) ⊎ ((b ≡ a) × (d <ℤ c))) → ⊥
not_both a b c d h l = grind (arith, ints, h, l)

-- no two cells stand before each other
asymmetric : (a b : Cell) → Before a b → Before b a → ⊥
asymmetric a b h l = not_both a.y b.y a.x b.x h l

-- the first one stands before the others
first_before : (c : Cell) (cells : List Cell) → AllPairs Before (c ∷ cells) → (d : Cell) → Contains cells d → Before c d
first_before c cells h d (k, l, e) = subst (λ (x : Cell). Before c x) e (h 0 (suc k) d (omega arith) (omega arith))

rest_in_order : (c : Cell) (cells : List Cell) → AllPairs Before (c ∷ cells) → AllPairs Before cells
rest_in_order c cells h = λ i j d l m. h (suc i) (suc j) d (omega arith) (omega arith)

pub one_list : (ones others : List Cell) → AllPairs Before ones → AllPairs Before others → ((d : Cell) → Contains ones d → Contains others d)
    → ((d : Cell) → Contains others d → Contains ones d) → ones ≡ others
one_list [] [] h l f g = refl
one_list [] (b ∷ others) h l f g = let k = g b (in_head b others) in absurd (omega (arith, k.1))
one_list (a ∷ ones) [] h l f g = let k = f a (in_head a ones) in absurd (omega (arith, k.1))
one_list (a ∷ ones) (b ∷ others) h l f g =
    let e : a ≡ b = by (in_cases b others a (f a (in_head a ones))) (in_cases a ones b (g b (in_head b others))) in
    let rest : ones ≡ others =
    one_list ones others (rest_in_order a ones h) (rest_in_order b others l) (narrow a b ones others e h f) (narrow b a others ones (sym e) l g) in
    λ i. e i ∷ rest i
  where
    narrow : (c d : Cell) (cs ds : List Cell) → c ≡ d → AllPairs Before (c ∷ cs) → ((x : Cell) → Contains (c ∷ cs) x → Contains (d ∷ ds) x)
        → (x : Cell) → Contains cs x → Contains ds x
    narrow c d cs ds e o t x k = elim (in_cases d ds x (t x (in_tail c cs x k))) [
      | inl s ↦
          let same : Before c c = subst (λ (z : Cell). Before c z) (sym (e ∙ s)) (first_before c cs o x k) in absurd (asymmetric c c same same)
      | inr s ↦ s
    ]

    by : (b ≡ a) ⊎ Contains others a → (a ≡ b) ⊎ Contains ones b → a ≡ b
    by (inl e) q = sym e
    by (inr k) (inl e) = e
    by (inr k) (inr m) = absurd (asymmetric a b (first_before a ones h b m) (first_before b others l a k))

-- as many cells are never more
pub never_more : (cell : ℤ → ℤ → ℕ) (cells : List Cell) (most : ℕ) → AreClaimedCells cell cells → (most < length cells → ⊥) → HasMoreClaimedCells most cell → ⊥
never_more cell cells most are few more =
    let other = more.1 in
    let e : cells ≡ more.0 =
    one_list cells more.0 are.in_order other.in_order
    (λ d k. let t = are.true_cells d k in other.all_cells d t.0 t.1)
    (λ d k. let t = other.true_cells d k in are.all_cells d t.0 t.1) in
    few (subst (λ (c : List Cell). most < length c) (sym e) more.2)
