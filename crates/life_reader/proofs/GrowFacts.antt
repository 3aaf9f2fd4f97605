-- The squares of node lines, as lines come one after another.
use Rattle.std.proofs.Common.{◌≡◌, ℕ, zero, suc, ◌-◌, ◌<◌, ◌≤◌, List, [], ◌∷◌, ◌++◌, length, take, map, refl, ap, sym, ◌∙◌, subst, arith, ◌⊎◌, inl, inr, Some, ℤ, slice_get, length-append}
use Rattle.std.proofs.lemmas.List.{take-append-le}
use Rattle.std.proofs.Math.Seq.{take-append_seam, take-length}
use Rattle.life_base.specs.Tree.{Tree, depth, tree_cell}
use Rattle.life_base.specs.declared.cell.TheConstants.{MAX_LEVEL}
use Rattle.life_base.specs.declared.rule.Rule.{Rule}
use Rattle.life_mc.specs.Cells.{macrocell_cell, root_level}
use Rattle.life_mc.specs.Macrocell.{Macrocell, IsSquare, IsValidMacrocell, level_of}
use Rattle.life_mc.specs.Squares.{StandsForSquare, tree_of, line_tree, root_tree}
use Rattle.life_mc.specs.declared.line.Line.{Line}
use Rattle.life_mc.specs.declared.line.Line.TheVariants.{Leaf, Quad}
use Rattle.life_mc.proofs.Squares.{lines_stand_for_squares}
use Rattle.life_quad.specs.declared.id.Id.{Id}
use Rattle.life_reader.specs.Filling.{AreSquaresOf}
use Rattle.life_reader.specs.Waiting.{AreTreesOf}
use Rattle.life_pattern.proofs.LineWords.{line_at, IsQuarter, IsChild, IsValidLine}
use Rattle.life_pattern.proofs.LineFacts.{get-line_at, line_at-get, tree_of-line, square-valid, root_level-last}

-- ---- the first lines of valid ones

at-first : (lines : List Line) (more : List Line) (i : ℕ) → i < length lines → line_at (lines ++ more) i ≡ line_at lines i
at-first [] more i h = absurd (omega arith)
at-first (line ∷ lines) more zero h = refl
at-first (line ∷ lines) more (suc i) h = at-first lines more i (omega arith)

pub get-first : {X : Type 0} (lines : List X) (more : List X) (i : ℕ) (line : X) → slice_get lines i ≡ Some line → slice_get (lines ++ more) i ≡ Some line
get-first [] more i line e = cc
get-first (one ∷ lines) more zero line e = e
get-first (one ∷ lines) more (suc i) line e = get-first lines more i line e

-- more lines, after which the lines are valid
module _ (rule : Rule) (generation : ℕ) (lines more : List Line)
    (good : IsValidMacrocell MAX_LEVEL (record { rule = rule; generation = generation; lines = lines ++ more })) where
  pub first-valid : IsValidMacrocell MAX_LEVEL (record { rule = rule; generation = generation; lines = lines })
  first-valid = record {
    rule = good.rule;
    generation = good.generation;
    squares = λ k line e.
        let h : k < length lines = (line_at-get lines k line e).0 in
        subst (λ (ls : List Line). IsSquare MAX_LEVEL rule (map level_of ls) line) (take-append-le k lines more (omega (arith, h)))
        (good.squares k line (get-first lines more k line e));
  }

  -- the squares of the first lines stay
  pub tree-stays : (i level : ℕ) (line : Line) → slice_get lines i ≡ Some line → level_of line ≡ level → tree_of (lines ++ more) level (suc i)
      ≡ tree_of lines level (suc i)
  tree-stays i level line e l =
      let h : i < length lines = (line_at-get lines i line e).0 in
      let new = (lines_stand_for_squares MAX_LEVEL _ good).each (suc i) line (get-first lines more i line e) in
      let old = (lines_stand_for_squares MAX_LEVEL _ first-valid).each (suc i) line e in
      let same : tree_of (lines ++ more) (level_of line) (suc i) ≡ tree_of lines (level_of line) (suc i) =
      sym new.by_prefix ∙ ap (λ (ls : List Line). tree_of ls (level_of line) (suc i)) (take-append-le (suc i) lines more (omega (arith, h)))
      ∙ old.by_prefix in
      subst (λ (n : ℕ). tree_of (lines ++ more) n (suc i) ≡ tree_of lines n (suc i)) l same

  quarter-stays : (k number : ℕ) → IsQuarter rule lines (length lines) k number → tree_of (lines ++ more) k number ≡ tree_of lines k number
  quarter-stays zero number q = refl
  quarter-stays (suc k) zero q = refl
  quarter-stays (suc k) (suc j) q = by q
    where
      by : IsChild lines (length lines) (suc k) (suc j) → tree_of (lines ++ more) (suc k) (suc j) ≡ tree_of lines (suc k) (suc j)
      by (inl e) = absurd (omega arith)
      by (inr c) =
          let less : suc j - 1 ≡ j = omega arith in
          let h : j < length lines = omega (arith, c.1) in
          tree-stays j (suc k) (line_at lines j) (get-line_at lines j h) (subst (λ (n : ℕ). level_of (line_at lines n) ≡ suc k) less c.2)

  pub line-stays : (line : Line) → IsValidLine MAX_LEVEL rule lines (length lines) line
      → line_tree (tree_of (lines ++ more) (level_of line - 1)) line ≡ line_tree (tree_of lines (level_of line - 1)) line
  line-stays (Leaf rows) v = refl
  line-stays (Quad level a b c d) v =
      let p = quarter-stays (level - 1) a v.2 in
      let q = quarter-stays (level - 1) b v.3 in
      let r = quarter-stays (level - 1) c v.4 in
      let s = quarter-stays (level - 1) d v.5 in
      cc

-- one line more
module _ (rule : Rule) (generation : ℕ) (lines : List Line) (square : Line)
    (good : IsValidMacrocell MAX_LEVEL (record { rule = rule; generation = generation; lines = lines ++ square ∷ [] })) where
  last-here : slice_get (lines ++ square ∷ []) (length lines) ≡ Some square
  last-here = at lines
    where
      at : (ls : List Line) → slice_get (ls ++ square ∷ []) (length ls) ≡ Some square
      at [] = refl
      at (l ∷ ls) = at ls

  -- the line itself is a square after them
  pub last-square : IsSquare MAX_LEVEL rule (map level_of lines) square
  last-square =
      subst (λ (ls : List Line). IsSquare MAX_LEVEL rule (map level_of ls) square) (take-append_seam lines (square ∷ []))
      (good.squares (length lines) square last-here)

  line-valid : IsValidLine MAX_LEVEL rule lines (length lines) square
  line-valid =
      square-valid MAX_LEVEL rule lines (length lines) square (omega arith)
      (subst (λ (ls : List Line). IsSquare MAX_LEVEL rule (map level_of ls) square) (sym (take-length lines)) last-square)

  last-stands : StandsForSquare rule (lines ++ square ∷ []) (level_of square) (suc (length lines))
  last-stands = (lines_stand_for_squares MAX_LEVEL _ good).each (suc (length lines)) square last-here

  level-some : (line : Line) → IsValidLine MAX_LEVEL rule lines (length lines) line → 1 ≤ level_of line
  level-some (Leaf rows) v = omega arith
  level-some (Quad level a b c d) v = v.0

  -- the square of the last line
  pub last-tree : tree_of (lines ++ square ∷ []) (level_of square) (suc (length lines)) ≡ line_tree (tree_of lines (level_of square - 1)) square
  last-tree = by (level_of square) (level-some square line-valid) ∙ line-stays rule generation lines (square ∷ []) good square line-valid
    where
      by : (n : ℕ) → 1 ≤ n → tree_of (lines ++ square ∷ []) n (suc (length lines)) ≡ line_tree (tree_of (lines ++ square ∷ []) (n - 1)) square
      by zero h = absurd (omega arith)
      by (suc k) h =
          let less : k ≡ suc k - 1 = omega arith in
          tree_of-line (lines ++ square ∷ []) k (length lines) (omega (arith, length-append lines (square ∷ [])))
          ∙ ap (line_tree (tree_of (lines ++ square ∷ []) k)) (line_at-get (lines ++ square ∷ []) (length lines) square last-here).1
          ∙ ap (λ (n : ℕ). line_tree (tree_of (lines ++ square ∷ []) n) square) less

pub get-within : {X : Type 0} (xs : List X) (i : ℕ) (y : X) → slice_get xs i ≡ Some y → i < length xs
get-within [] i y e = cc
get-within (x ∷ xs) zero y e = omega arith
get-within (x ∷ xs) (suc i) y e = omega (arith, get-within xs i y e)

get-last : {X : Type 0} (xs : List X) (x : X) (i : ℕ) (y : X) → slice_get (xs ++ x ∷ []) i ≡ Some y → (slice_get xs i ≡ Some y) ⊎ ((i ≡ length xs) × (x ≡ y))
get-last [] x zero y e = inr (refl, cc)
get-last [] x (suc i) y e = cc
get-last (z ∷ xs) x zero y e = inl e
get-last (z ∷ xs) x (suc i) y e = elim (get-last xs x i y e) [ inl h ↦ inl h | inr h ↦ inr (ap suc h.0, h.1) ]

-- one square more
pub trees-grow : (rule : Rule) (generation : ℕ) (lines : List Line) (square : Line) (trees : List Tree) (t : Tree)
    → IsValidMacrocell MAX_LEVEL (record { rule = rule; generation = generation; lines = lines ++ square ∷ [] }) → AreTreesOf lines trees
    → t ≡ line_tree (tree_of lines (level_of square - 1)) square → AreTreesOf (lines ++ square ∷ []) (trees ++ t ∷ [])
trees-grow rule generation lines square trees t good h is = record {
  count = omega (arith, length-append trees (t ∷ []), length-append lines (square ∷ []), h.count);
  each = λ index u line at there. by index u line (get-last trees t index u at) (get-last lines square index line there);
}
  where
    tree : t ≡ tree_of (lines ++ square ∷ []) (level_of square) (suc (length lines))
    tree = is ∙ sym (last-tree rule generation lines square good)

    by : (index : ℕ) (u : Tree) (line : Line) → (slice_get trees index ≡ Some u) ⊎ ((index ≡ length trees) × (t ≡ u)) → (slice_get lines index ≡ Some line)
        ⊎ ((index ≡ length lines) × (square ≡ line))
        → (u ≡ tree_of (lines ++ square ∷ []) (level_of line) (suc index)) × (depth u ≡ level_of line)
    by index u line (inl at) (inl there) =
        let e = h.each index u line at there in
        (e.0 ∙ sym (tree-stays rule generation lines (square ∷ []) good index (level_of line) line there refl), e.1)
    by index u line (inl at) (inr last) = absurd (omega (arith, get-within trees index u at, last.0, h.count))
    by index u line (inr last) (inl there) = absurd (omega (arith, get-within lines index line there, last.0, h.count))
    by index u line (inr here) (inr last) =
        let P : ℕ → Tree → Line → Type 0 = λ n v l. (v ≡ tree_of (lines ++ square ∷ []) (level_of l) (suc n)) × (depth v ≡ level_of l) in
        let base : P (length lines) t square = (tree, ap depth tree ∙ (last-stands rule generation lines square good).depth_is) in
        subst (λ (n : ℕ). P n u line) (sym last.0)
        (subst (λ (v : Tree). P (length lines) v line) here.1 (subst (λ (l : Line). P (length lines) t l) last.1 base))

-- ---- the root

-- the square of the last line has the cells of the file
pub root-cells : (knows : Id → Type 0) (content : Id → Tree) (file : Macrocell) (ids : List Id) (id : Id) → IsValidMacrocell MAX_LEVEL file
    → AreSquaresOf knows content file.lines ids
    → slice_get ids (length ids - 1) ≡ Some id → knows id × (1 ≤ depth (content id)) × ((x y : ℤ) → tree_cell (content id) x y ≡ macrocell_cell file x y)
root-cells knows content file ids id good h at =
    let lines = file.lines in
    let some : 0 < length lines = omega (arith, get-within ids (length ids - 1) id at, h.count) in
    let k : ℕ = length lines - 1 in
    let one : suc k ≡ length lines = omega arith in
    let small : k < length lines = omega arith in
    let last : Line = line_at lines k in
    let index : length ids - 1 ≡ k = omega (arith, h.count) in
    let e = h.each k id last (subst (λ (n : ℕ). slice_get ids n ≡ Some id) index at) (get-line_at lines k small) in
    let s = lines_stand_for_squares MAX_LEVEL file good in
    let tree : content id ≡ root_tree lines =
    e.1 ∙ ap (λ (n : ℕ). tree_of lines n (suc k)) (sym (root_level-last lines some)) ∙ ap (λ (n : ℕ). tree_of lines (root_level lines) n) one in (
      e.0,
      omega (arith, e.2, high (map level_of (take k lines)) last (good.squares k last (get-line_at lines k small))),
      λ x y. ap (λ (t : Tree). tree_cell t x y) tree ∙ sym (s.plane x y),
    )
  where
    high : (levels : List ℕ) (line : Line) → IsSquare MAX_LEVEL file.rule levels line → 1 ≤ level_of line
    high levels (Leaf rows) q = omega arith
    high levels (Quad level a b c d) q = q.0

-- and it is of the level of the root
pub root-depth : (knows : Id → Type 0) (content : Id → Tree) (file : Macrocell) (ids : List Id) (id : Id) → AreSquaresOf knows content file.lines ids
    → slice_get ids (length ids - 1) ≡ Some id → depth (content id) ≡ root_level file.lines
root-depth knows content file ids id h at =
    let some : 0 < length file.lines = omega (arith, get-within ids (length ids - 1) id at, h.count) in
    let k : ℕ = length file.lines - 1 in
    let small : k < length file.lines = omega arith in
    let index : length ids - 1 ≡ k = omega (arith, h.count) in
    let e = h.each k id (line_at file.lines k) (subst (λ (n : ℕ). slice_get ids n ≡ Some id) index at) (get-line_at file.lines k small) in
    e.2 ∙ sym (root_level-last file.lines some)
