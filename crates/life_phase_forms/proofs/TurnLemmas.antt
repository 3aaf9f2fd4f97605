-- The generations of turned patterns.
use Rattle.std.proofs.Common.{◌≡◌, ℕ, zero, suc, Bool, true, false, [], ◌∷◌, refl, sym, ◌∙◌, ap, ℤ, arith, if◌then◌else◌}
use Rattle.std.proofs.lemmas.Int.{ints}
use Rattle.life_base.specs.Sets.{OuterTotalistic}
use Rattle.life_base.specs.declared.rule.Near.{Near}
use Rattle.life_base.specs.declared.rule.Near.TheVariants.{Moore, VonNeumann}
use Rattle.life_next.specs.Generation.{one_before, one_after, next_by_count, next_life}
use Rattle.life_table.specs.Meaning.{count_of}
use Rattle.life_leap.specs.After.{after}
use Rattle.life_leap.proofs.AfterLemmas.{after-none, after-next}
use Rattle.life_forms.specs.Turns.{Turn, counted_coordinate, opposite_coordinate}
use Rattle.life_forms.proofs.TurnFacts.{backwards-is}
use Rattle.life_phase_forms.specs.Laws.{GenerationsKeepTurns, turned_cells}

-- ---- counts don't depend on the order

-- of the eight around a cell, begun with another one and in the other direction
exchanged-eight : (a b c d e f g h : ℕ)
    → count_of 1 (a ∷ b ∷ c ∷ d ∷ e ∷ f ∷ g ∷ h ∷ []) ≡ count_of 1 (g ∷ f ∷ e ∷ d ∷ c ∷ b ∷ a ∷ h ∷ [])
exchanged-eight a b c d e f g h = omega arith

mirrored-eight : (a b c d e f g h : ℕ)
    → count_of 1 (a ∷ b ∷ c ∷ d ∷ e ∷ f ∷ g ∷ h ∷ []) ≡ count_of 1 (a ∷ h ∷ g ∷ f ∷ e ∷ d ∷ c ∷ b ∷ [])
mirrored-eight a b c d e f g h = omega arith

-- of the four that share a side with it
exchanged-four : (a b c d : ℕ) → count_of 1 (a ∷ b ∷ c ∷ d ∷ []) ≡ count_of 1 (d ∷ c ∷ b ∷ a ∷ [])
exchanged-four a b c d = omega arith

mirrored-four : (a b c d : ℕ) → count_of 1 (a ∷ b ∷ c ∷ d ∷ []) ≡ count_of 1 (a ∷ d ∷ c ∷ b ∷ [])
mirrored-four a b c d = omega arith

-- ---- the next generation

-- columns and rows exchanged or not, and columns or rows counted from the other side or not
abbrev exchanged : Bool → (ℤ → ℤ → ℕ) → ℤ → ℤ → ℕ
exchanged e f x y = f (if e then y else x) (if e then x else y)

abbrev columns_from : Bool → (ℤ → ℤ → ℕ) → ℤ → ℤ → ℕ
columns_from c f x y = f (counted_coordinate c x) y

abbrev rows_from : Bool → (ℤ → ℤ → ℕ) → ℤ → ℤ → ℕ
rows_from r f x y = f x (counted_coordinate r y)

before-opposite : (x : ℤ) → opposite_coordinate (one_before x) ≡ one_after (opposite_coordinate x)
before-opposite x =
    let there = backwards-is (one_before x) in
    let here = backwards-is x in
    omega (arith, ints)

after-opposite : (x : ℤ) → opposite_coordinate (one_after x) ≡ one_before (opposite_coordinate x)
after-opposite x =
    let there = backwards-is (one_after x) in
    let here = backwards-is x in
    omega (arith, ints)

abbrev under : OuterTotalistic → Near → OuterTotalistic
under rule near = record { sets = rule.sets; near = near }

module _ (rule : OuterTotalistic) (f : ℤ → ℤ → ℕ) (x y : ℤ) where
  flip-next : (near : Near) → next_life (under rule near) (λ u v. f v u) x y ≡ next_life (under rule near) f y x
  flip-next Moore = ap (next_by_count rule.sets (f y x)) (exchanged-eight _ _ _ _ _ _ _ _)
  flip-next VonNeumann = ap (next_by_count rule.sets (f y x)) (exchanged-four _ _ _ _)

  mirror-next : (near : Near)
      → next_life (under rule near) (λ u v. f (opposite_coordinate u) v) x y ≡ next_life (under rule near) f (opposite_coordinate x) y
  mirror-next Moore =
      let w = before-opposite x in
      let e = after-opposite x in
      let n = one_before y in
      let s = one_after y in
      let o = opposite_coordinate x in
      (λ i. next_by_count rule.sets (f o y)
      (count_of 1 (f o n ∷ f (e i) n ∷ f (e i) y ∷ f (e i) s ∷ f o s ∷ f (w i) s ∷ f (w i) y ∷ f (w i) n ∷ [])))
      ∙ ap (next_by_count rule.sets (f o y)) (mirrored-eight _ _ _ _ _ _ _ _)
  mirror-next VonNeumann =
      let w = before-opposite x in
      let e = after-opposite x in
      let n = one_before y in
      let s = one_after y in
      let o = opposite_coordinate x in
      (λ i. next_by_count rule.sets (f o y) (count_of 1 (f o n ∷ f (e i) y ∷ f o s ∷ f (w i) y ∷ [])))
      ∙ ap (next_by_count rule.sets (f o y)) (mirrored-four _ _ _ _)

module _ (rule : OuterTotalistic) where
  next-exchanged : (e : Bool) (f : ℤ → ℤ → ℕ) (x y : ℤ)
      → next_life rule (exchanged e f) x y ≡ next_life rule f (if e then y else x) (if e then x else y)
  next-exchanged false f x y = refl
  next-exchanged true f x y = flip-next rule f x y rule.near

  next-columns : (c : Bool) (f : ℤ → ℤ → ℕ) (x y : ℤ) → next_life rule (columns_from c f) x y ≡ next_life rule f (counted_coordinate c x) y
  next-columns false f x y = refl
  next-columns true f x y = mirror-next rule f x y rule.near

  next-rows : (r : Bool) (f : ℤ → ℤ → ℕ) (x y : ℤ) → next_life rule (rows_from r f) x y ≡ next_life rule f x (counted_coordinate r y)
  next-rows false f x y = refl
  next-rows true f x y =
      flip-next rule (λ u v. f v (opposite_coordinate u)) x y rule.near
      ∙ mirror-next rule (λ u v. f v u) y x rule.near
      ∙ flip-next rule f (opposite_coordinate y) x rule.near

  next-turned : (turn : Turn) (f : ℤ → ℤ → ℕ) (x y : ℤ) → next_life rule (turned_cells turn f) x y ≡ turned_cells turn (next_life rule f) x y
  next-turned turn f x y =
      let e = turn.exchange in
      let g = rows_from turn.rows f in
      next-exchanged e (columns_from turn.columns g) x y
      ∙ next-columns turn.columns g (if e then y else x) (if e then x else y)
      ∙ next-rows turn.rows f (counted_coordinate turn.columns (if e then y else x)) (if e then x else y)

  -- ---- later ones

  pub after-turned : (n : ℕ) (turn : Turn) (f : ℤ → ℤ → ℕ) → after rule n (turned_cells turn f) ≡ turned_cells turn (after rule n f)
  after-turned zero turn f = after-none rule (turned_cells turn f) ∙ ap (turned_cells turn) (sym (after-none rule f))
  after-turned (suc n) turn f =
      after-next rule n (turned_cells turn f) ∙ ap (next_life rule) (after-turned n turn f)
      ∙ (λ i x y. next-turned turn (after rule n f) x y i) ∙ ap (turned_cells turn) (sym (after-next rule n f))

pub generations-turned : GenerationsKeepTurns
generations-turned rule n turn cells x y = ap (λ (g : ℤ → ℤ → ℕ). g x y) (after-turned rule n turn cells)
