-- The squares of node lines are few.
use Rattle.std.proofs.Common.{◌≡◌, ℕ, ◌+◌, ◌*◌, ◌≤◌, List, [], ◌∷◌, ◌++◌, length, refl, ap, sym, ◌∙◌, subst, arith, inl, Option, Some, None, append_assoc, length-append, ◌-◌, append-nil}
use Rattle.std.specs.List.{cons_option}
use Rattle.life_base.specs.Lines.{joined_lines}
use Rattle.life_base.specs.Tree.{Tree, quad}
use Rattle.life_mc.specs.Cells.{leaf_cell}
use Rattle.life_mc.specs.Reading.{squares_of, square_after}
use Rattle.life_mc.specs.Squares.{tree_of, leaf_tree}
use Rattle.life_mc.specs.declared.line.Line.{Line}
use Rattle.life_mc.specs.declared.line.Line.TheVariants.{Leaf, Quad}
use Rattle.life_reader.specs.Needs.{SomeOfLine}
use Rattle.life_pattern.proofs.LineFacts.{tree_at-depth}
use Rattle.life_pattern.proofs.SpaceLists.{Among, among-left, among-right}
use Rattle.life_reader.proofs.SpaceRoots.{parts, parts-have, parts-few}
use Rattle.life_mc.proofs.LinesConsumed.{squares_consumed}

-- the squares of a line after these
abbrev pub squares_in : List Line → Option Line → List Tree
squares_in lines None = []
squares_in lines (Some (Leaf rows)) = parts (leaf_tree rows)
squares_in lines (Some (Quad level nw ne sw se)) =
    quad (tree_of lines (level - 1) nw) (tree_of lines (level - 1) ne) (tree_of lines (level - 1) sw) (tree_of lines (level - 1) se) ∷ []

-- of all lines after these
abbrev pub nodes : List (List ℕ) → List (List ℕ) → List Tree
nodes before [] = []
nodes before (line ∷ lines) = squares_in (squares_of before) (square_after before line) ++ nodes (before ++ line ∷ []) lines

-- ---- they are all

in-line : (lines : List Line) (square : Line) (t : Tree) → SomeOfLine (λ u. u ≡ t) lines square → Among (squares_in lines (Some square)) t
in-line lines (Leaf rows) t h = parts-have (leaf_tree rows) t h
in-line lines (Quad level nw ne sw se) t h = inl h

ends-same : (xs : List Line) (o : Option Line) (x : Line) → xs ++ cons_option o [] ≡ xs ++ x ∷ [] → o ≡ Some x
ends-same [] None x e = cc
ends-same [] (Some y) x e = let same : y ≡ x = cc in ap Some same
ends-same (z ∷ xs) o x e = ends-same xs o x (let tails : xs ++ cons_option o [] ≡ xs ++ x ∷ [] = cc in tails)

pub nodes-have : (before b behind : List (List ℕ)) (line : List ℕ) (square : Line) (t : Tree)
    → squares_of ((before ++ b) ++ line ∷ []) ≡ squares_of (before ++ b) ++ square ∷ []
    → SomeOfLine (λ u. u ≡ t) (squares_of (before ++ b)) square → Among (nodes before (b ++ line ∷ behind)) t
nodes-have before [] behind line square t e some =
    let none : before ++ [] ≡ before = append-nil before in
    let consumed : squares_of before ++ cons_option (square_after before line) [] ≡ squares_of before ++ square ∷ [] =
    sym (squares_consumed before line) ∙ subst (λ (bs : List (List ℕ)). squares_of (bs ++ line ∷ []) ≡ squares_of bs ++ square ∷ []) none e in
    let is = ends-same (squares_of before) (square_after before line) square consumed in
    among-left (squares_in (squares_of before) (square_after before line)) (nodes (before ++ line ∷ []) behind) t
    (subst (λ (o : Option Line). Among (squares_in (squares_of before) o) t) (sym is)
    (in-line (squares_of before) square t (subst (λ (bs : List (List ℕ)). SomeOfLine (λ u. u ≡ t) (squares_of bs) square) none some)))
nodes-have before (first ∷ b) behind line square t e some =
    let moved : before ++ first ∷ b ≡ (before ++ first ∷ []) ++ b = sym (append_assoc before (first ∷ []) b) in
    among-right (squares_in (squares_of before) (square_after before first)) (nodes (before ++ first ∷ []) (b ++ line ∷ behind)) t
    (nodes-have (before ++ first ∷ []) b behind line square t
    (subst (λ (bs : List (List ℕ)). squares_of (bs ++ line ∷ []) ≡ squares_of bs ++ square ∷ []) moved e)
    (subst (λ (bs : List (List ℕ)). SomeOfLine (λ u. u ≡ t) (squares_of bs) square) moved some))

-- ---- and few

squares_in-few : (lines : List Line) (o : Option Line) → length (squares_in lines o) ≤ 21
squares_in-few lines None = omega arith
squares_in-few lines (Some (Leaf rows)) = let h = parts-few (tree_at-depth (leaf_cell rows) 3 0 0) in omega (arith, h)
squares_in-few lines (Some (Quad level nw ne sw se)) = omega arith

no-square : (before : List (List ℕ)) → square_after before [] ≡ None
no-square [] = refl
no-square (header ∷ lines) = refl

line-few : (before : List (List ℕ)) (line : List ℕ) → length (squares_in (squares_of before) (square_after before line)) ≤ 14 * (length line + 1)
line-few before [] = rw (no-square before) (omega arith)
line-few before (b ∷ line) = let h = squares_in-few (squares_of before) (square_after before (b ∷ line)) in omega (arith, h)

pub nodes-few : (before lines : List (List ℕ)) → length (nodes before lines) ≤ 14 * length (joined_lines lines)
nodes-few before [] = omega arith
nodes-few before (line ∷ lines) =
    let one = line-few before line in
    let rest = nodes-few (before ++ line ∷ []) lines in
    let both = length-append (squares_in (squares_of before) (square_after before line)) (nodes (before ++ line ∷ []) lines) in
    let size = length-append line (10 ∷ joined_lines lines) in
    omega (arith, one, rest, both, size)
