-- Facts about squares made of other squares.
use Rattle.std.proofs.Common.{◌≡◌, ℕ, zero, suc, ◌+◌, ◌≤◌, Bool, true, false, nat_lt, refl, sym, ◌∙◌, ap, subst, arith, List, map, get_or}
use Rattle.std.specs.List.{list_all}
use Rattle.std.proofs.lemmas.Grind.{common_steps}
use Rattle.life_quad.specs.declared.id.Id.{Id}
use Rattle.life_base.specs.Tree.{Tree, point, quad, depth, quarters, blank, is_blank_tree, IsFull}
use Rattle.life_quad.specs.declared.moves.Quarters.{Quarters}
use Rattle.life_quad.specs.Moves.{AreQuarters, quad_of, outer, inner, can_trim, trimmed_square, trim_up_to}
use Rattle.life_base.proofs.Squares.{is_blank-blank, blank_is}
use Rattle.life_base.proofs.Basics.{left_of_and}

-- a test for the blank square of a level
pub blank_test : (t : Tree) (l : ℕ) (same : Bool) → IsFull t → l ≡ depth t → (same ≡ true → t ≡ blank l) → (same ≡ false → t ≡ blank l → ⊥)
    → same ≡ is_blank_tree t
blank_test t l true full e holds fails = sym (ap is_blank_tree (holds refl) ∙ is_blank-blank l)
blank_test t l false full e holds fails = by (is_blank_tree t) refl
  where
    by : (b : Bool) → is_blank_tree t ≡ b → false ≡ is_blank_tree t
    by true f = absurd (fails refl (blank_is t full f ∙ ap blank (sym e)))
    by false f = sym f

-- a square by the Ids of its quarters
pub quad_of_parts : (C : Id → Tree) (t : Tree) (ids : List Id) (z : Id) → 1 ≤ depth t → map C ids ≡ quarters t
    → t ≡ quad (C (get_or ids 0 z)) (C (get_or ids 1 z)) (C (get_or ids 2 z)) (C (get_or ids 3 z))
quad_of_parts C (point s) ids z deep e = absurd (omega arith)
quad_of_parts C (quad p q r s) ids z deep e = grind (arith, common_steps)

-- each quarter of a square is one level lower
pub levels_of_parts : (t a b c d : Tree) → IsFull t → t ≡ quad a b c d
    → (depth a + 1 ≡ depth t) × (depth b + 1 ≡ depth t) × (depth c + 1 ≡ depth t) × (depth d + 1 ≡ depth t)
levels_of_parts t a b c d full is =
    let f = subst IsFull is full in
    let e : depth t ≡ suc (depth a) = ap depth is in
    (omega (arith, e), omega (arith, e, f.4), omega (arith, e, f.5), omega (arith, e, f.6))

-- four quarters make a full square
pub full_quarters : (knows : Id → Type 0) (content : Id → Tree) (q : Quarters) → ((id : Id) → knows id → IsFull (content id))
    → AreQuarters knows content (quad_of content q) q → IsFull (quad_of content q)
full_quarters knows content q full a =
    (full q.nw a.nw, full q.ne a.ne, full q.sw a.sw, full q.se a.se, omega (arith, a.ne_level), omega (arith, a.sw_level), omega (arith, a.se_level))

-- the square of the inner grandchildren is one level lower
pub depth-inner : (t : Tree) → IsFull t → 2 ≤ depth t → depth (inner t) + 1 ≡ depth t
depth-inner (point s) full deep = absurd (omega arith)
depth-inner (quad (point a) b c d) full deep = absurd (omega arith)
depth-inner (quad (quad a b c d) (point e) f g) full deep = absurd (let x = full.4 in omega arith)
depth-inner (quad (quad a b c d) (quad e h i j) (point f) g) full deep = absurd (let x = full.5 in omega arith)
depth-inner (quad (quad a b c d) (quad e h i j) (quad k l m n) (point g)) full deep = absurd (let x = full.6 in omega arith)
depth-inner (quad (quad a b c d) (quad e h i j) (quad k l m n) (quad o p q r)) full deep = let f = full.0.6 in omega arith

-- a square that can't be trimmed stays
pub trimmed-stays : (t : Tree) (least : ℕ) → can_trim t least ≡ false → trimmed_square t least ≡ t
trimmed-stays t least h = by (depth t)
  where
    by : (n : ℕ) → trim_up_to n t least ≡ t
    by zero = refl
    by (suc n) = grind (arith, h)

-- a square that can be trimmed has the trimmed form of its inner grandchildren
pub trimmed-smaller : (t : Tree) (least : ℕ) → IsFull t → 1 ≤ least → can_trim t least ≡ true → trimmed_square (inner t) least ≡ trimmed_square t least
trimmed-smaller t least full positive h =
    let above : nat_lt least (depth t) ≡ true = left_of_and _ (list_all is_blank_tree (outer t)) h in
    let deep : 2 ≤ depth t = grind arith in
    let one : depth t ≡ suc (depth (inner t)) = sym (depth-inner t full deep) ∙ (omega arith) in
    sym (ap (λ n. trim_up_to n t least) one ∙ step (depth (inner t)))
  where
    step : (n : ℕ) → trim_up_to (suc n) t least ≡ trim_up_to n (inner t) least
    step n = grind (arith, h)
