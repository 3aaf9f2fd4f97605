-- The first leaf of a square, and what it says of the text.
use Rattle.std.proofs.Common.{◌≡◌, ◌≢◌, ◌⊎◌, inl, inr, ℕ, zero, suc, ◌-◌, ◌^◌, ◌<◌, ◌≤◌, Bool, true, false, ◌&&◌, List, [], ◌∷◌, ◌++◌, map, if◌then◌else◌, refl, sym, ap, ◌∙◌, subst, ℤ, pos, neg_ℤ, ◌+ℤ◌, ◌≤ℤ◌, ◌<ℤ◌, arith, true≢false, pow_mono, flat_map, lit≤, append-nil}
use Rattle.std.proofs.lemmas.Int.{ints}
use Rattle.std.proofs.lemmas.Bool.{cases_lt}
use Rattle.std.proofs.lemmas.Bool.Decides.{nat_tests}
use Rattle.life_base.specs.Tree.{Tree, point, quad, depth, blank, half_side, is_blank_tree, tree_cell, IsFull}
use Rattle.life_base.specs.declared.cell.TheConstants.{MAX_LEVEL}
use Rattle.life_base.specs.declared.rule.Rule.{Rule}
use Rattle.life_base.proofs.Basics.{zero_unless}
use Rattle.life_base.proofs.Squares.{depth-blank, full-blank, is_blank-blank}
use Rattle.life_mc.specs.Squares.{HasStatesUpTo}
use Rattle.life_mc.specs.Writing.{header_lines_text, node_text}
use Rattle.life_mc.specs.declared.line.Line.TheVariants.{Leaf}
use Rattle.life_quad.specs.Moves.{trimmed_square}
use Rattle.life_quad.proofs.LawLemmas.{cells_lie_inside, trimmed_is_fixed, trimmed_is_lowest, trimming_keeps_cells, trimming_stops}
use Rattle.life_pieces.specs.Pieces.{square_from}
use Rattle.life_pieces.specs.Pieces.{step_ahead}
use Rattle.life_pieces.proofs.NeedLemmas.{depth-square, piece-is}
use Rattle.life_pieces.proofs.PieceLemmas.{blank-of_zero}
use Rattle.life_pieces.proofs.NeedLemmas.{full-square}
use Rattle.life_pattern.specs.Laws.{SquaresAreCentred}
use Rattle.life_writer.specs.Lesser.{IsUpTo}
use Rattle.life_writer.specs.Listing.{is_small, line_of, is_in, listed_squares, rows_of, square_text, walk, with_all, with_new}
use Rattle.life_pattern.specs.Universe.{IsBlankOutside, centred_square, corner, is_life, least_level, square}
use Rattle.life_writer.proofs.OrderFacts.{up-to-behind, up-to-longer}
use Rattle.life_slide.proofs.MovedLemmas.{centre-cells}
use Rattle.life_forms.proofs.MovedFacts.{cells-centred, depth-centred, full-centred, square-same}
use Rattle.life_forms.proofs.PatternFacts.{square-up-to}
use Rattle.life_forms.proofs.PlaneFacts.{high-end, low-end}

-- ---- the walk over a square begins with its first leaf

first-live : (a b c d : Bool) → a ≡ false → (a && b && c && d) ≡ false
first-live false b c d e = refl
first-live true b c d e = absurd (true≢false e)

pub last-live : (a b c d : Bool) → d ≡ false → (a && b && c && d) ≡ false
last-live a b c true e = absurd (true≢false e)
last-live false b c false e = refl
last-live true false c false e = refl
last-live true true false false e = refl
last-live true true true false e = refl

pub is-big : (t : Tree) → is_blank_tree t ≡ false → 3 ≤ depth t → is_small 3 t ≡ false
is-big t live high = grind (arith, nat_tests, live)

low-is-small : (t : Tree) → depth t ≡ 2 → is_small 3 t ≡ true
low-is-small t low = grind (arith, nat_tests, low)

pub blank-is-small : (t : Tree) → is_blank_tree t ≡ true → is_small 3 t ≡ true
blank-is-small t e = rw e refl

-- such a square has no walk
pub no-walk : (t : Tree) → is_small 3 t ≡ true → walk t 3 ≡ []
no-walk (point s) e = refl
no-walk (quad a b c d) e = rw e refl

-- another one has those of its quarters, and then itself
pub full-walk : (a b c d : Tree) → is_small 3 (quad a b c d) ≡ false
    → walk (quad a b c d) 3 ≡ walk a 3 ++ (walk b 3 ++ (walk c 3 ++ (walk d 3 ++ quad a b c d ∷ [])))
full-walk a b c d e = rw e refl

pub record Begins (f t : Tree) : Type 0 where
  pub live : is_blank_tree t ≡ false
  pub high : 3 ≤ depth t
  pub rest : List Tree
  pub is : walk t 3 ≡ f ∷ rest

-- a square of level 3 is all of its own walk
pub leaf-walk : (a b c d : Tree) → depth a ≡ 2 → depth b ≡ 2 → depth c ≡ 2 → depth d ≡ 2 → is_blank_tree (quad a b c d) ≡ false
    → walk (quad a b c d) 3 ≡ quad a b c d ∷ []
leaf-walk a b c d ea eb ec ed live =
    let none = λ (t : Tree) (e : depth t ≡ 2). no-walk t (low-is-small t e) in
    full-walk a b c d (is-big (quad a b c d) live (omega (arith, ea)))
    ∙ (λ i. none a ea i ++ (none b eb i ++ (none c ec i ++ (none d ed i ++ quad a b c d ∷ []))))

-- where the first quarter begins with a leaf, the square does
quarter-begins : (f a b c d : Tree) → Begins f a → Begins f (quad a b c d)
quarter-begins f a b c d h =
    let live : is_blank_tree (quad a b c d) ≡ false = first-live (is_blank_tree a) (is_blank_tree b) (is_blank_tree c) (is_blank_tree d) h.live in
    let deep : 3 ≤ depth (quad a b c d) = let high = h.high in omega (arith, high) in
    let others = walk b 3 ++ (walk c 3 ++ (walk d 3 ++ quad a b c d ∷ [])) in
    record {
      live = live;
      high = deep;
      rest = h.rest ++ others;
      is = full-walk a b c d (is-big (quad a b c d) live deep) ∙ ap (λ l. l ++ others) h.is;
    }

-- so it does where the first three are blank and the last one does
last-begins : (f a b c d : Tree) → is_blank_tree a ≡ true → is_blank_tree b ≡ true → is_blank_tree c ≡ true → depth a ≡ depth d → Begins f d
    → Begins f (quad a b c d)
last-begins f a b c d ea eb ec level h =
    let live : is_blank_tree (quad a b c d) ≡ false = last-live (is_blank_tree a) (is_blank_tree b) (is_blank_tree c) (is_blank_tree d) h.live in
    let deep : 3 ≤ depth (quad a b c d) = let high = h.high in omega (arith, high, level) in
    let none = λ (t : Tree) (e : is_blank_tree t ≡ true). no-walk t (blank-is-small t e) in
    record {
      live = live;
      high = deep;
      rest = h.rest ++ quad a b c d ∷ [];
      is = full-walk a b c d (is-big (quad a b c d) live deep)
          ∙ (λ i. none a ea i ++ (none b eb i ++ (none c ec i ++ (h.is i ++ quad a b c d ∷ []))));
    }

-- ---- squares of a plane

pub level-of : (cell : ℤ → ℤ → ℕ) (k : ℕ) (x y : ℤ) → depth (square cell k x y) ≡ k
level-of cell k x y = subst (λ (t : Tree). depth t ≡ k) (square-same cell k x y) (depth-square cell k x y)

pub leaf-alone : (cell : ℤ → ℤ → ℕ) (x y : ℤ) → is_blank_tree (square cell 3 x y) ≡ false → walk (square cell 3 x y) 3 ≡ square cell 3 x y ∷ []
unfolding square
leaf-alone cell x y live = let d = pos (2 ^ 2) in
    leaf-walk (square cell 2 x y) (square cell 2 (x +ℤ d) y) (square cell 2 x (y +ℤ d)) (square cell 2 (x +ℤ d) (y +ℤ d)) (level-of cell 2 x y)
    (level-of cell 2 (x +ℤ d) y) (level-of cell 2 x (y +ℤ d)) (level-of cell 2 (x +ℤ d) (y +ℤ d)) live

leaf-begins : (cell : ℤ → ℤ → ℕ) (x y : ℤ) → is_blank_tree (square cell 3 x y) ≡ false → Begins (square cell 3 x y) (square cell 3 x y)
leaf-begins cell x y live =
    let level = level-of cell 3 x y in
    record { live = live; high = omega (arith, level); rest = []; is = leaf-alone cell x y live }

first-begins : (cell : ℤ → ℤ → ℕ) (x y : ℤ) → is_blank_tree (square cell 3 x y) ≡ false → (k : ℕ) → 3 ≤ k → Begins (square cell 3 x y) (square cell k x y)
unfolding square
first-begins cell x y live zero h = absurd (omega (arith, h))
first-begins cell x y live (suc k) h = by (cases_lt k 3) (λ l. first-begins cell x y live k l)
  where
    by : (k < 3) ⊎ (3 ≤ k) → (3 ≤ k → Begins (square cell 3 x y) (square cell k x y)) → Begins (square cell 3 x y) (square cell (suc k) x y)
    by (inl l) below =
        let e : 3 ≡ suc k = omega (arith, l, h) in
        subst (λ (n : ℕ). Begins (square cell 3 x y) (square cell n x y)) e (leaf-begins cell x y live)
    by (inr l) below =
        let d = pos (2 ^ k) in
        quarter-begins (square cell 3 x y) (square cell k x y) (square cell k (x +ℤ d) y) (square cell k x (y +ℤ d)) (square cell k (x +ℤ d) (y +ℤ d)) (below l)

pub no-cells : (cell : ℤ → ℤ → ℕ) (k : ℕ) (x y : ℤ)
    → ((u v : ℤ) → x ≤ℤ u → u <ℤ step_ahead x (2 ^ k) → y ≤ℤ v → v <ℤ step_ahead y (2 ^ k) → cell u v ≡ 0)
    → blank k ≡ square cell k x y
no-cells cell k x y zeros =
    piece-is cell k x y (blank k) (full-blank k) (depth-blank k) (blank-of_zero cell k x y (record { zero_at = zeros })) ∙ square-same cell k x y

blank-square : (cell : ℤ → ℤ → ℕ) (k : ℕ) (x y : ℤ)
    → ((u v : ℤ) → x ≤ℤ u → u <ℤ step_ahead x (2 ^ k) → y ≤ℤ v → v <ℤ step_ahead y (2 ^ k) → cell u v ≡ 0)
    → is_blank_tree (square cell k x y) ≡ true
blank-square cell k x y zeros = subst (λ (t : Tree). is_blank_tree t ≡ true) (no-cells cell k x y zeros) (is_blank-blank k)

-- the square about (0, 0) of such cells has one quarter that isn't blank
pub corner-alone : (cell : ℤ → ℤ → ℕ) → ((x y : ℤ) → cell x y ≢ 0 → (pos 0 ≤ℤ x) × (pos 0 ≤ℤ y)) → (j : ℕ)
    → centred_square cell (suc j) ≡ quad (blank j) (blank j) (blank j) (square cell j (pos 0) (pos 0))
unfolding square corner centred_square
corner-alone cell inside j =
    let c = neg_ℤ (pos (2 ^ j)) in
    let back : c +ℤ pos (2 ^ j) ≡ pos 0 = omega (arith, ints) in
    let nw = no-cells cell j c c (λ u v w e n s. zero_unless _ (λ some. let a = (inside u v some).0 in omega (arith, ints, a, e, back))) in
    let ne = no-cells cell j (c +ℤ pos (2 ^ j)) c (λ u v w e n s. zero_unless _ (λ some. let a = (inside u v some).1 in omega (arith, ints, a, s, back))) in
    let sw = no-cells cell j c (c +ℤ pos (2 ^ j)) (λ u v w e n s. zero_unless _ (λ some. let a = (inside u v some).0 in omega (arith, ints, a, e, back))) in
    λ i. quad (sym nw i) (sym ne i) (sym sw i) (square cell j (back i) (back i))

-- the square about (0, 0) of cells that lie east and south of it begins with the leaf that begins there
corner-begins : (cell : ℤ → ℤ → ℕ) → ((x y : ℤ) → cell x y ≢ 0 → (pos 0 ≤ℤ x) × (pos 0 ≤ℤ y)) → is_blank_tree (square cell 3 (pos 0) (pos 0)) ≡ false
    → (j : ℕ) → 3 ≤ j → Begins (square cell 3 (pos 0) (pos 0)) (centred_square cell (suc j))
unfolding square corner centred_square
corner-begins cell inside live j high =
    let c = neg_ℤ (pos (2 ^ j)) in
    let back : pos 0 ≡ c +ℤ pos (2 ^ j) = omega (arith, ints) in
    last-begins (square cell 3 (pos 0) (pos 0)) (square cell j c c) (square cell j (c +ℤ pos (2 ^ j)) c) (square cell j c (c +ℤ pos (2 ^ j)))
    (square cell j (c +ℤ pos (2 ^ j)) (c +ℤ pos (2 ^ j)))
    (blank-square cell j c c (λ u v w e n s. zero_unless _ (λ some. let a = (inside u v some).0 in omega (arith, ints, a, e, back))))
    (blank-square cell j (c +ℤ pos (2 ^ j)) c (λ u v w e n s. zero_unless _ (λ some. let a = (inside u v some).1 in omega (arith, ints, a, s, back))))
    (blank-square cell j c (c +ℤ pos (2 ^ j)) (λ u v w e n s. zero_unless _ (λ some. let a = (inside u v some).0 in omega (arith, ints, a, e, back))))
    (level-of cell j c c ∙ sym (level-of cell j (c +ℤ pos (2 ^ j)) (c +ℤ pos (2 ^ j))))
    (subst (Begins (square cell 3 (pos 0) (pos 0))) (λ i. square cell j (back i) (back i)) (first-begins cell (pos 0) (pos 0) live j high))

-- ---- texts

-- a list of squares, each at its first place alone, begins as the first of them
new-first : (f t : Tree) (ks : List Tree) → (more : List Tree) × (with_new (f ∷ ks) t ≡ f ∷ more)
new-first f t ks = by (is_in (f ∷ ks) t)
  where
    by : (known : Bool) → (more : List Tree) × ((if known then f ∷ ks else f ∷ (ks ++ t ∷ [])) ≡ f ∷ more)
    by true = (ks, refl)
    by false = (ks ++ t ∷ [], refl)

kept-first : (f : Tree) (ks ts : List Tree) → (more : List Tree) × (with_all (f ∷ ks) ts ≡ f ∷ more)
kept-first f ks [] = (ks, refl)
kept-first f ks (t ∷ ts) =
    let one = new-first f t ks in
    let all = kept-first f one.0 ts in
    (all.0, ap (λ l. with_all l ts) one.1 ∙ all.1)

list-begins : (f t : Tree) → Begins f t → (more : List Tree) × (listed_squares t 3 ≡ f ∷ more)
unfolding listed_squares
list-begins f t h = let p = kept-first f [] h.rest in (p.0, ap (with_all []) h.is ∙ p.1)

list-alone : (f : Tree) → walk f 3 ≡ f ∷ [] → listed_squares f 3 ≡ f ∷ []
unfolding listed_squares
list-alone f is = ap (with_all []) is

-- the text of a square whose list begins with a leaf begins with the leaf's line
pub leaf-line : (rule : Rule) → is_life rule ≡ true → (all : List Tree) (f : Tree) → depth f ≡ 3 → line_of rule all f ≡ Leaf (rows_of f)
leaf-line rule life all f level = rw life rw level refl

module _ (rule : Rule) (life : is_life rule ≡ true) (low : least_level rule ≡ 3) (generation : ℕ) (f : Tree) (level : depth f ≡ 3) where
  text-by-list : (t : Tree) (more : List Tree) → listed_squares t 3 ≡ f ∷ more
      → square_text rule generation t
      ≡ header_lines_text rule generation ++ (node_text (Leaf (rows_of f)) ++ flat_map node_text (map (line_of rule (listed_squares t 3)) more))
  text-by-list t more e =
      ap (λ (n : ℕ). header_lines_text rule generation ++ flat_map node_text (map (line_of rule (listed_squares t n)) (listed_squares t n))) low
      ∙ ap (λ (xs : List Tree). header_lines_text rule generation ++ flat_map node_text (map (line_of rule (listed_squares t 3)) xs)) e
      ∙ ap (λ line. header_lines_text rule generation ++ (node_text line ++ flat_map node_text (map (line_of rule (listed_squares t 3)) more)))
      (leaf-line rule life (listed_squares t 3) f level)

  -- the text of the leaf alone is no greater than that of a square that begins with it
  pub up-to-first : (t : Tree) → walk f 3 ≡ f ∷ [] → Begins f t → IsUpTo (square_text rule generation f) (square_text rule generation t)
  up-to-first t alone h =
      let list = list-begins f t h in
      let prefix = node_text (Leaf (rows_of f)) in
      let more = flat_map node_text (map (line_of rule (listed_squares t 3)) list.0) in
      subst (IsUpTo (square_text rule generation f)) (sym (text-by-list t list.0 list.1))
      (subst (λ (text : List ℕ). IsUpTo text (header_lines_text rule generation ++ (prefix ++ more))) (sym (text-by-list f [] (list-alone f alone)))
      (up-to-behind (header_lines_text rule generation) (prefix ++ []) (prefix ++ more) (up-to-behind prefix [] more (up-to-longer [] more))))

-- the text of a leaf
pub text-of-leaf : (rule : Rule) → is_life rule ≡ true → least_level rule ≡ 3 → (generation : ℕ) (a b c d : Tree) → depth a ≡ 2 → depth b ≡ 2 → depth c ≡ 2
    → depth d ≡ 2 → is_blank_tree (quad a b c d) ≡ false
    → square_text rule generation (quad a b c d) ≡ header_lines_text rule generation ++ node_text (Leaf (rows_of (quad a b c d)))
text-of-leaf rule life low generation a b c d ea eb ec ed live =
    let f = quad a b c d in
    let level : depth f ≡ 3 = omega (arith, ea) in
    text-by-list rule life low generation f level f [] (list-alone f (leaf-walk a b c d ea eb ec ed live))
    ∙ ap (λ (text : List ℕ). header_lines_text rule generation ++ text) (append-nil (node_text (Leaf (rows_of f))))

-- ---- the root of a pattern in the corner (0, 0)

-- the cells lie in a square of 2^k columns and rows at (0, 0)
pub record IsAtCorner (cell : ℤ → ℤ → ℕ) (k : ℕ) : Type 0 where
  pub states : (x y : ℤ) → cell x y < 256
  pub inside : (x y : ℤ) → cell x y ≢ 0 → (pos 0 ≤ℤ x) × (x <ℤ pos (2 ^ k)) × (pos 0 ≤ℤ y) × (y <ℤ pos (2 ^ k))

-- one of them is after so many columns or rows
pub record HasFarCell (cell : ℤ → ℤ → ℕ) (n : ℕ) : Type 0 where
  pub column : ℤ
  pub row : ℤ
  pub some : cell column row ≢ 0
  pub far : (pos n ≤ℤ column) ⊎ (pos n ≤ℤ row)

module _ (cell : ℤ → ℤ → ℕ) (k : ℕ) (from_two : 2 ≤ k) (to_twelve : k ≤ 12) (at : IsAtCorner cell k) where
  abbrev plane : Tree
  plane = centred_square cell MAX_LEVEL

  abbrev root : Tree
  root = trimmed_square plane 3

  whole-plane : IsFull plane
  whole-plane = full-centred cell at.states

  deep-plane : depth plane ≡ 62
  deep-plane = depth-centred cell at.states

  plane-side : 2 ^ k ≤ 2 ^ 61
  plane-side = pow_mono {i = k} {j = 61} (omega (arith, to_twelve))

  on-plane : IsBlankOutside MAX_LEVEL cell
  on-plane x y out = zero_unless _ (λ some.
      let l = low-end in
      let h = high-end in
      let side = plane-side in
      let i = at.inside x y some in
      let w = i.0 in
      let e = i.1 in
      let n = i.2 in
      let s = i.3 in
      out ((omega (arith, ints, l, side, w), omega (arith, ints, h, side, e)), (omega (arith, ints, l, side, n), omega (arith, ints, h, side, s))))

  cells : (x y : ℤ) → tree_cell root x y ≡ cell x y
  cells x y = trimming_keeps_cells plane 3 whole-plane (lit≤ tt) x y ∙ cells-centred cell at.states on-plane x y

  pub full-root : IsFull root
  full-root = (trimmed_is_fixed plane 3 whole-plane (lit≤ tt)).0

  pub from : 3 ≤ depth root
  from = (trimming_stops plane 3 whole-plane (lit≤ tt)).0 (let d = deep-plane in omega (arith, d))

  not-low : (j : ℕ) → HasFarCell cell (2 ^ j) → depth root ≤ suc j → ⊥
  not-low j has low =
      let here = cells_lie_inside root has.column has.row (λ e. has.some (sym (cells _ _) ∙ e)) in
      let less : half_side root ≤ 2 ^ j = pow_mono {i = depth root - 1} {j = j} (omega (arith, low)) in
      let e = here.1 in
      let s = here.3 in
      elim has.far [
        | inl c ↦ omega (arith, ints, less, e, c)
        | inr r ↦ omega (arith, ints, less, s, r)
      ]

  pub higher : (j : ℕ) → HasFarCell cell (2 ^ j) → suc j < depth root
  higher j has = by (cases_lt (suc j) (depth root))
    where
      by : (suc j < depth root) ⊎ (depth root ≤ suc j) → suc j < depth root
      by (inl l) = l
      by (inr l) = absurd (not-low j has l)

  pub lower : depth root ≤ suc k
  lower =
      let c = neg_ℤ (pos (2 ^ k)) in
      let small = square_from cell (suc k) c c in
      let deep : depth small ≡ suc k = depth-square cell (suc k) c c in
      let d = deep-plane in
      subst (λ (n : ℕ). depth root ≤ n) deep
      (trimmed_is_lowest small plane 3 (full-square cell at.states (suc k) c c) whole-plane (lit≤ tt) (omega (arith, deep, from_two))
      (omega (arith, d))
      (λ x y.
      centre-cells cell at.states k
      (λ u v apart. zero_unless _ (λ some.
      let i = at.inside u v some in
      let w = i.0 in
      let e = i.1 in
      let n = i.2 in
      let s = i.3 in
      apart (record { west = omega (arith, ints, w); east = e; north = omega (arith, ints, n); south = s }))) x y
      ∙ sym (cells-centred cell at.states on-plane x y)))

  -- it is the square of its cells about (0, 0)
  root-is : SquaresAreCentred → centred_square cell (depth root) ≡ root
  root-is centre =
      let high = from in
      (λ i. centred_square (λ x y. sym (cells x y) i) (depth root)) ∙ (centre root full-root (omega (arith, high))).0

  -- so where its level is known
  pub root-at : SquaresAreCentred → depth root ≡ suc k → root ≡ quad (blank k) (blank k) (blank k) (square cell k (pos 0) (pos 0))
  root-at centre level =
      sym (root-is centre) ∙ ap (centred_square cell) level ∙ corner-alone cell (λ x y some. let i = at.inside x y some in (i.0, i.2)) k

  -- or about (0, 0)
  pub root-about : SquaresAreCentred → depth root ≡ 3 → root ≡ square cell 3 (neg_ℤ (pos 4)) (neg_ℤ (pos 4))
  unfolding corner centred_square
  root-about centre level = sym (root-is centre) ∙ ap (centred_square cell) level

  -- its states are those of its cells
  pub root-states : SquaresAreCentred → (most : ℕ) → ((x y : ℤ) → cell x y ≤ most) → HasStatesUpTo most root
  unfolding centred_square
  root-states centre most states = subst (HasStatesUpTo most) (root-is centre) (square-up-to most cell states (depth root) _ _)

  -- it begins with the leaf at (0, 0)
  pub root-begins : SquaresAreCentred → HasFarCell cell 4 → is_blank_tree (square cell 3 (pos 0) (pos 0)) ≡ false → Begins (square cell 3 (pos 0) (pos 0)) root
  root-begins centre far live =
      let high = higher 2 far in
      let level : suc (depth root - 1) ≡ depth root = omega (arith, high) in
      subst (Begins (square cell 3 (pos 0) (pos 0))) (ap (centred_square cell) level ∙ root-is centre)
      (corner-begins cell (λ x y some. let i = at.inside x y some in (i.0, i.2)) live (depth root - 1) (omega (arith, high)))
