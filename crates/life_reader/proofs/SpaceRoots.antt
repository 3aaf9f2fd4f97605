-- The squares through which a root is grown or trimmed are few.
use Rattle.std.proofs.Common.{◌≡◌, ℕ, zero, suc, ◌+◌, ◌*◌, ◌<◌, ◌≤◌, List, [], ◌∷◌, ◌++◌, length, refl, subst, arith, ◌⊎◌, inl, inr, ℤ, length-append}
use Rattle.std.proofs.lemmas.Bool.Decides.{nat_tests}
use Rattle.life_base.specs.declared.cell.TheConstants.{MAX_LEVEL}
use Rattle.life_base.specs.declared.rule.Rule.{Rule}
use Rattle.life_base.specs.declared.rule.Rule.TheVariants.{Life, Named}
use Rattle.life_base.specs.Tree.{Tree, point, quad}
use Rattle.life_quad.specs.Moves.{trimmed_square}
use Rattle.life_quad.specs.Refused.{SomePart}
use Rattle.life_reader.specs.Needs.{SomeRoot, trimmed_root, grown_root}
use Rattle.life_pattern.specs.Universe.{Universe, centred_square, whole, least_level}
use Rattle.life_pattern.proofs.SpaceLists.{Among, among-left, among-right}
use Rattle.life_pattern.proofs.TreeWords.{HasDepth, point_depth, quad_depth}
use Rattle.life_pattern.proofs.Trees.{centred-depth}

-- ---- the parts of a square

abbrev pub parts : Tree → List Tree
parts (point s) = []
parts (quad a b c d) = quad a b c d ∷ (parts a ++ (parts b ++ (parts c ++ parts d)))

pub parts-have : (u t : Tree) → SomePart (λ v. v ≡ t) u → Among (parts u) t
parts-have (point s) t h = absurd h
parts-have (quad a b c d) t (inl e) = inl e
parts-have (quad a b c d) t (inr (inl h)) = inr (among-left (parts a) (parts b ++ (parts c ++ parts d)) t (parts-have a t h))
parts-have (quad a b c d) t (inr (inr (inl h))) =
    inr (among-right (parts a) (parts b ++ (parts c ++ parts d)) t (among-left (parts b) (parts c ++ parts d) t (parts-have b t h)))
parts-have (quad a b c d) t (inr (inr (inr (inl h)))) =
    inr (among-right (parts a) (parts b ++ (parts c ++ parts d)) t (among-right (parts b) (parts c ++ parts d) t
    (among-left (parts c) (parts d) t (parts-have c t h))))
parts-have (quad a b c d) t (inr (inr (inr (inr h)))) =
    inr (among-right (parts a) (parts b ++ (parts c ++ parts d)) t (among-right (parts b) (parts c ++ parts d) t
    (among-right (parts c) (parts d) t (parts-have d t h))))

abbrev pub most_parts : ℕ → ℕ
most_parts zero = 0
most_parts (suc k) = 1 + 4 * most_parts k

pub parts-few : {k : ℕ} {t : Tree} → HasDepth k t → length (parts t) ≤ most_parts k
parts-few point_depth = omega arith
parts-few (quad_depth {nw = a} {ne = b} {sw = c} {se = d} p q r s) =
    let cd = length-append (parts c) (parts d) in
    let bcd = length-append (parts b) (parts c ++ parts d) in
    let abcd = length-append (parts a) (parts b ++ (parts c ++ parts d)) in
    let fa = parts-few p in
    let fb = parts-few q in
    let fc = parts-few r in
    let fd = parts-few s in
    omega (arith, cd, bcd, abcd, fa, fb, fc, fd)

-- ---- the roots of a plane

-- those that are trimmed, under either kind of rule
abbrev pub trimmed_roots : (ℤ → ℤ → ℕ) → List Tree
trimmed_roots f = trimmed_square (centred_square f MAX_LEVEL) 3 ∷ trimmed_square (centred_square f MAX_LEVEL) 1 ∷ []

trimmed-root : (u : Universe) → Among (trimmed_roots u.cell) (whole MAX_LEVEL u)
unfolding whole
trimmed-root u = by u.rule
  where
    by : (rule : Rule) → Among (trimmed_roots u.cell) (trimmed_square (centred_square u.cell MAX_LEVEL) (least_level rule))
    by (Life sets) = inl refl
    by (Named name) = inr (inl refl)

pub least-three : (rule : Rule) → least_level rule ≤ 3
least-three (Life sets) = omega arith
least-three (Named name) = omega arith

-- of the whole plane: only trimmed
pub plane-root : (u : Universe) (t : Tree) → SomeRoot MAX_LEVEL (λ v. v ≡ t) u MAX_LEVEL → Among (trimmed_roots u.cell) t
plane-root u t (trimmed_root lower e) = subst (Among (trimmed_roots u.cell)) e (trimmed-root u)
plane-root u t (grown_root level higher least some) = let three = least-three u.rule in absurd (omega (arith, higher, least, three))

-- those that are grown
abbrev pub grown_roots : (ℤ → ℤ → ℕ) → List Tree
grown_roots f = parts (centred_square f 1) ++ (parts (centred_square f 2) ++ parts (centred_square f 3))

-- all of them, of any level
abbrev pub all_roots : (ℤ → ℤ → ℕ) → List Tree
all_roots f = trimmed_roots f ++ grown_roots f

pub all_roots-few : (f : ℤ → ℤ → ℕ) → length (all_roots f) ≤ 29
all_roots-few f =
    let one = parts-few (centred-depth f 1) in
    let two = parts-few (centred-depth f 2) in
    let three = parts-few (centred-depth f 3) in
    let b = length-append (parts (centred_square f 1)) (parts (centred_square f 2) ++ parts (centred_square f 3)) in
    let c = length-append (parts (centred_square f 2)) (parts (centred_square f 3)) in
    omega (arith, one, two, three, b, c)

three_levels : (level : ℕ) → 0 < level → level ≤ 3 → (level ≡ 1) ⊎ (level ≡ 2) ⊎ (level ≡ 3)
three_levels level h k = grind (arith, nat_tests)

grown-among : (f : ℤ → ℤ → ℕ) (level : ℕ) (t : Tree) → (level ≡ 1) ⊎ (level ≡ 2) ⊎ (level ≡ 3) → Among (parts (centred_square f level)) t
    → Among (grown_roots f) t
grown-among f level t (inl e) h =
    among-left (parts (centred_square f 1)) (parts (centred_square f 2) ++ parts (centred_square f 3)) t (subst (λ k. Among (parts (centred_square f k)) t) e h)
grown-among f level t (inr (inl e)) h =
    among-right (parts (centred_square f 1)) (parts (centred_square f 2) ++ parts (centred_square f 3)) t
    (among-left (parts (centred_square f 2)) (parts (centred_square f 3)) t (subst (λ k. Among (parts (centred_square f k)) t) e h))
grown-among f level t (inr (inr e)) h =
    among-right (parts (centred_square f 1)) (parts (centred_square f 2) ++ parts (centred_square f 3)) t
    (among-right (parts (centred_square f 2)) (parts (centred_square f 3)) t (subst (λ k. Among (parts (centred_square f k)) t) e h))

pub any-root : (u : Universe) (t : Tree) (n : ℕ) → SomeRoot MAX_LEVEL (λ v. v ≡ t) u n → Among (all_roots u.cell) t
any-root u t n (trimmed_root lower e) =
    among-left (trimmed_roots u.cell) (grown_roots u.cell) t (subst (Among (trimmed_roots u.cell)) e (trimmed-root u))
any-root u t n (grown_root level higher least some) =
    let three = least-three u.rule in
    among-right (trimmed_roots u.cell) (grown_roots u.cell) t
    (grown-among u.cell level t (three_levels level (omega (arith, higher)) (omega (arith, least, three))) (parts-have (centred_square u.cell level) t some))
