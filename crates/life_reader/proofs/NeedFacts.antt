-- The squares that a refused call lacked: of the root that is grown or trimmed, of runs, and of lines with more lines after them.
use Rattle.std.proofs.Common.{◌≡◌, ◌⊎◌, inl, inr, ℕ, zero, suc, ◌+◌, ◌-◌, ◌<◌, ◌≤◌, true, List, [], ◌∷◌, ◌++◌, max, ap, sym, ◌∙◌, subst, arith, append_assoc, refl, ℤ, append-nil}
use Rattle.life_base.specs.Lines.{has_no_feed, whole_lines, rest_line, one_line}
use Rattle.life_base.specs.Refusal.{Prefix, fault_at, fault_of}
use Rattle.life_base.specs.Text.{lines_of}
use Rattle.life_base.specs.declared.cell.TheConstants.{MAX_LEVEL}
use Rattle.life_base.specs.declared.cell.Run.{Run}
use Rattle.life_base.specs.declared.fault.Fault.{Fault}
use Rattle.life_base.specs.declared.kind.Kind.{Kind}
use Rattle.life_base.specs.declared.kind.Kind.TheVariants.{Full}
use Rattle.life_base.specs.Tree.{Tree, depth, tree_cell, IsFull}
use Rattle.life_base.proofs.WholeLines.{lines_are_whole, lines_continue}
use Rattle.life_mc.specs.Reading.{AcceptsMacrocell, squares_of}
use Rattle.life_mc.specs.declared.line.Line.{Line}
use Rattle.life_rle.specs.File.{HasRuns}
use Rattle.life_pattern.specs.Files.{is_macrocell}
use Rattle.life_reader.specs.Taking.{IsGoing, IsEnd, consumed_lines}
use Rattle.life_reader.specs.declared.progress.Progress.{Progress}
use Rattle.life_reader.specs.declared.progress.Progress.TheVariants as progress
use Rattle.life_base.proofs.Basics.{true_false}
use Rattle.life_reader.proofs.PrefixFacts.{whole-at, end-says, end-lines}
use Rattle.life_quad.proofs.LawLemmas.{trimming_stops, depth_grown}
use Rattle.life_quad.specs.Moves.{grown_square, trimmed_square}
use Rattle.life_quad.specs.Refused.{SomePart, TrimmedTo}
use Rattle.life_quad.specs.declared.id.Id.{Id}
use Rattle.life_quad.specs.declared.squares.Squares.{Ghosts}
use Rattle.life_reader.specs.Filling.{HasGrown, HasSquare}
use Rattle.life_reader.specs.Needs.{SomeOfRuns, SomeOfLine, SomeOfLines, of_node_line, of_runs, grown_times, SomeGrown, SomeRoot, trimmed_root, grown_root, SomeOfFile, of_lines, SomeAtEnd, of_plane, of_root, at_end, SomeOfMacrocell}
use Rattle.life_pattern.specs.Universe.{Universe, IsBlankOutside, centred_square, corner, least_level, whole}
use Rattle.life_pattern.proofs.Whole.{least-one}
use Rattle.life_reader.proofs.PatternFacts.{trimmed-whole}
use Rattle.life_pattern.proofs.Planes.{full-depth, centred-tree_cell, tree_cell-outside}
use Rattle.life_pattern.proofs.TreeWords.{HasDepth, below_top}
use Rattle.life_pattern.proofs.Trees.{square-same, centred-grown, outside-more}

-- ---- a square that is grown

pub SomeGrown-next : (P : Tree → Type 0) (t : Tree) (level : ℕ) → 1 ≤ depth t → SomeGrown P (grown_square t) level → SomeGrown P t level
SomeGrown-next P t level h s = let d = depth_grown t h in record { more = suc s.more; low = omega (arith, d, s.low); part = s.part }

-- the squares of one growth more
pub grown-next : {X : Type 0} (S : Ghosts X) (squares : X) (t : Tree) (level : ℕ) → 1 ≤ depth t → HasSquare S squares (grown_square t)
    → HasGrown S squares (grown_square t) level → HasGrown S squares t level
grown-next S squares t level high one rest zero low = one
grown-next S squares t level high one rest (suc more) low = rest more (let d = depth_grown t high in omega (arith, d, low))

-- they stay while the store keeps its Ids
pub grown-stays : {X : Type 0} (S : Ghosts X) (old new : X) (t : Tree) (level : ℕ)
    → ((id : Id) → S.knows old id → S.knows new id × (S.content new id ≡ S.content old id)) → HasGrown S old t level → HasGrown S new t level
grown-stays S old new t level keeps has more low =
    let one = has more low in
    let kept = keeps one.0 one.1 in
    (one.0, kept.0, kept.1 ∙ one.2)

-- ---- squares about (0, 0) with the cells of a pattern

-- a square with these cells is the one of its level
pub is-centred : (f : ℤ → ℤ → ℕ) (t : Tree) (k : ℕ) → IsFull t → depth t ≡ suc k → ((x y : ℤ) → tree_cell t x y ≡ f x y) → (t ≡ centred_square f (suc k))
    × IsBlankOutside (suc k) f
unfolding centred_square
is-centred f t k full d cells =
    let h : HasDepth (suc k) t = subst (λ (n : ℕ). HasDepth n t) d (full-depth t full) in (
      sym (centred-tree_cell h) ∙ square-same (tree_cell t) f cells (suc k) (corner (suc k)) (corner (suc k)),
      λ x y n. sym (cells x y)
          ∙ tree_cell-outside h x y n,
    )

-- grown, it is one of a higher level
pub grown-centred : (f : ℤ → ℤ → ℕ) (n k : ℕ) (t : Tree) → t ≡ centred_square f (suc k) → IsBlankOutside (suc k) f → grown_times n t
    ≡ centred_square f (suc (n + k))
grown-centred f zero k t e o = let none : suc k ≡ suc (0 + k) = omega arith in e ∙ ap (centred_square f) none
grown-centred f (suc n) k t e o =
    let level : suc (n + suc k) ≡ suc (suc n + k) = omega arith in
    grown-centred f n (suc k) (grown_square t) (ap grown_square e ∙ sym (centred-grown f k o)) (outside-more f k o) ∙ ap (centred_square f) level

-- ---- the root of a pattern

-- it is grown
pub root-grown : (P : Tree → Type 0) (u : Universe) (t : Tree) → IsFull t → 1 ≤ depth t → ((x y : ℤ) → tree_cell t x y ≡ u.cell x y)
    → SomeGrown P t (least_level u.rule)
    → SomeRoot MAX_LEVEL P u (depth t)
root-grown P u t full h cells s =
    let k : ℕ = depth t - 1 in
    let d : depth t ≡ suc k = omega arith in
    let c = is-centred u.cell t k full d cells in
    let e : grown_times (suc s.more) t ≡ centred_square u.cell (suc (suc s.more + k)) = grown-centred u.cell (suc s.more) k t c.0 c.1 in
    grown_root (suc (suc s.more + k)) (omega (arith, d)) (omega (arith, d, s.low)) (subst (SomePart P) e s.part)

-- it is trimmed, from the level of the root and not from the least one, at which nothing is trimmed
pub root-trimmed : (P : Tree → Type 0) (u : Universe) (t : Tree) (n : ℕ) → IsFull t → depth t ≤ MAX_LEVEL → depth t ≡ max (least_level u.rule) n
    → ((x y : ℤ) → tree_cell t x y ≡ u.cell x y)
    → TrimmedTo P t (least_level u.rule) → SomeRoot MAX_LEVEL P u n
root-trimmed P u t n full low high cells s =
    let least = least_level u.rule in
    let is : trimmed_square t least ≡ whole MAX_LEVEL u = trimmed-whole below_top u t full low (omega (arith, high)) cells in
    let stops : least ≤ depth (trimmed_square t least) = (trimming_stops t least full (least-one u.rule)).0 (omega (arith, high)) in
    let lower : depth (trimmed_square t least) < n = omega (arith, stops, high, s.smaller) in
    trimmed_root (subst (λ (r : Tree). depth r < n) is lower) (subst P is s.has)

-- ---- runs

-- the runs of the lines so far
pub line-runs : (P : Tree → Type 0) (lines : List (List ℕ)) (runs : List Run) → HasRuns MAX_LEVEL lines runs → SomeOfRuns P runs
    → SomeOfLines MAX_LEVEL P lines
line-runs P lines runs h s = of_runs lines [] runs (sym (append-nil lines)) h s

-- ---- lines

-- more lines after them
pub more-lines : (P : Tree → Type 0) (prefix more all : List (List ℕ)) → all ≡ prefix ++ more → SomeOfLines MAX_LEVEL P prefix → SomeOfLines MAX_LEVEL P all
more-lines P prefix more all e (of_node_line before line behind square whole begins squares some) =
    of_node_line before line (behind ++ more) square
    (e ∙ ap (λ (ls : List (List ℕ)). ls ++ more) whole ∙ append_assoc before (line ∷ behind) more) begins squares some
more-lines P prefix more all e (of_runs begun behind runs whole are some) =
    of_runs begun (behind ++ more) runs (e ∙ ap (λ (ls : List (List ℕ)). ls ++ more) whole ∙ append_assoc begun behind more) are some

-- more bytes after them
pub prefix-more : (P : Tree → Type 0) (bytes more : List ℕ) → SomeOfLines MAX_LEVEL P (whole_lines bytes)
    → SomeOfLines MAX_LEVEL P (whole_lines (bytes ++ more))
prefix-more P bytes more s =
    more-lines P (whole_lines bytes) (whole_lines (rest_line bytes ++ more)) (whole_lines (bytes ++ more)) (lines_continue bytes more).whole s

-- a node line after a prefix
pub next-needs : (P : Tree → Type 0) (prefix all : List (List ℕ)) (line : List ℕ) (square : Line) → all ≡ prefix ++ line ∷ []
    → Prefix (AcceptsMacrocell MAX_LEVEL) all
    → squares_of all ≡ squares_of prefix ++ square ∷ [] → SomeOfLine P (squares_of prefix) square → SomeOfLines MAX_LEVEL P (prefix ++ line ∷ [])
next-needs P prefix all line square e begins squares some =
    of_node_line prefix line [] square refl (subst (Prefix (AcceptsMacrocell MAX_LEVEL)) e begins)
    (subst (λ (ls : List (List ℕ)). squares_of ls ≡ squares_of prefix ++ square ∷ []) e squares) some

-- the line that ends, and lines after it
pub ended-needs : (P : Tree → Type 0) (bytes kept end rest : List ℕ) (ended : ℕ) (lines : List (List ℕ)) → IsGoing bytes kept ended lines
    → has_no_feed end ≡ true
    → SomeOfLines MAX_LEVEL P (lines ++ (kept ++ end) ∷ []) → SomeOfLines MAX_LEVEL P (whole_lines (bytes ++ end ++ 10 ∷ [] ++ rest))
ended-needs P bytes kept end rest ended lines g h =
    more-lines P (lines ++ (kept ++ end) ∷ []) (whole_lines rest) (whole_lines (bytes ++ end ++ 10 ∷ [] ++ rest))
    (whole-at bytes kept end rest ended lines g h ∙ sym (append_assoc lines ((kept ++ end) ∷ []) (whole_lines rest)))

-- the whole lines are the first lines of the file
pub whole-needs : (P : Tree → Type 0) (bytes : List ℕ) → SomeOfLines MAX_LEVEL P (whole_lines bytes) → SomeOfFile MAX_LEVEL P (lines_of bytes)
whole-needs P bytes s = of_lines (more-lines P (whole_lines bytes) (one_line (rest_line bytes)) (lines_of bytes) (lines_are_whole bytes) s)

-- what the end of the lines that were taken needs, the end of the file needs
pub end-needs : (P : Tree → Type 0) (bytes : List ℕ) (ended : ℕ) (p : Progress) → IsEnd bytes ended p → SomeAtEnd MAX_LEVEL P (consumed_lines p)
    → SomeAtEnd MAX_LEVEL P (lines_of bytes)
end-needs P bytes ended p e (of_plane u says rle some) =
    let more = end-lines bytes ended p u e says in
    of_plane u (end-says bytes ended p u e says) (ap is_macrocell more.1 ∙ more.2 ∙ rle) some
end-needs P bytes ended p e (of_root u says some) =
    let more = end-lines bytes ended p u e says in
    of_root u (end-says bytes ended p u e says) (subst (SomeRoot MAX_LEVEL P u) (sym more.3) some)

-- the same of a node line that was waiting until the end
pub left-needs : (P : Tree → Type 0) (bytes : List ℕ) (ended : ℕ) (p : Progress) → IsEnd bytes ended p
    → SomeAtEnd MAX_LEVEL P (consumed_lines p) ⊎ SomeOfMacrocell MAX_LEVEL P (consumed_lines p)
    → SomeOfFile MAX_LEVEL P (lines_of bytes)
left-needs P bytes ended p e (inl s) = at_end (end-needs P bytes ended p e s)
left-needs P bytes ended p e (inr s) = of_lines (by p e s)
  where
    by : (p : Progress) → IsEnd bytes ended p → SomeOfMacrocell MAX_LEVEL P (consumed_lines p) → SomeOfLines MAX_LEVEL P (lines_of bytes)
    by progress.Undecided e s = more-lines P [] [] (lines_of bytes) (e.going (λ v. v)).0 s.1
    by (progress.Macrocell reader ids waiting) e s =
        more-lines P reader.lines [] (lines_of bytes) ((e.going (λ v. v)).0 ∙ sym (append-nil reader.lines)) s.1
    by (progress.Rle reader builder runs) e s = absurd (true_false (is_macrocell reader.lines) s.0 e.begun.format)

-- ---- kinds

-- a fault that is a full store is of that kind
pub kind-full : (n : ℕ) (kind : Kind) → fault_at n kind ≡ fault_of Full → kind ≡ Full
kind-full n kind e = ap (λ (f : Fault). f.kind) e
