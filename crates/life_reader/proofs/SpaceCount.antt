-- A store that lacks a square of a file has space left.
use Rattle.std.proofs.Common.{◌≡◌, ◌≢◌, ℕ, ℤ, ◌+◌, ◌≤◌, false, List, ◌∷◌, ◌++◌, length, refl, subst, arith, inl, inr, length-append, AllPairs, Contains}
use Rattle.life_base.specs.Tree.{Tree, is_blank_tree}
use Rattle.life_base.specs.Text.{lines_of}
use Rattle.life_base.specs.declared.cell.Run.{Run}
use Rattle.life_base.specs.declared.cell.TheConstants.{MAX_LEVEL}
use Rattle.life_mc.specs.declared.line.Line.{Line}
use Rattle.life_mc.specs.declared.line.Line.TheVariants.{Leaf, Quad}
use Rattle.life_mc.specs.Squares.{leaf_tree}
use Rattle.life_quad.specs.Store.{Nodes, stored_squares}
use Rattle.life_strip.specs.Middle.{SomeAboutMiddle}
use Rattle.life_strip.specs.Needed.{SomeSquare}
use Rattle.life_strip.proofs.NeededLemmas.{SomeSquare-as}
use Rattle.life_reader.specs.Needs.{SomeOfLine, SomeOfRuns, SomeOfLines, of_node_line, of_runs, SomeRoot, trimmed_root, grown_root, of_plane, of_root, SomeOfFile, of_lines, at_end}
use Rattle.life_pattern.specs.Store.{IsNew}
use Rattle.life_reader.specs.Space.{LimitSuffices, HoldsOnly, sufficient_for}
use Rattle.life_pattern.specs.Universe.{Universe, centred_square, whole}
use Rattle.life_reader.proofs.SpaceLaw.{few_squares}
use Rattle.life_pattern.proofs.SpaceLists.{Among, among-left, among-right, among-contains, contains-among, distinct-pairs, pigeons}
use Rattle.life_pattern.proofs.Found.{Found, found-as, find-part}

find-line : (P : Tree → Type 0) (lines : List Line) (line : Line) → SomeOfLine P lines line → Found P (λ Q. SomeOfLine Q lines line)
find-line P lines (Leaf rows) h = find-part P (leaf_tree rows) h
find-line P lines (Quad level nw ne sw se) h = record { square = _; holds = h; some = refl }

pub find-square : (P : Tree → Type 0) (rows : ℕ) (states : ℕ → ℕ → ℕ) → SomeSquare P rows states → Found P (λ Q. SomeSquare Q rows states)
find-square P rows states s =
    record { square = s.square; holds = s.property; some = SomeSquare-as (omega arith) (λ i j li lj. refl) s refl }

pub find-runs : (P : Tree → Type 0) (runs : List Run) → SomeOfRuns P runs → Found P (λ Q. SomeOfRuns Q runs)
find-runs P runs some =
    found-as (λ Q k. record { before = some.before; run = some.run; behind = some.behind; are = some.are; above = k }) (find-square P _ _ some.above)

pub find-lines : (P : Tree → Type 0) (lines : List (List ℕ)) → SomeOfLines MAX_LEVEL P lines → Found P (λ Q. SomeOfLines MAX_LEVEL Q lines)
find-lines P lines (of_node_line before line behind square e begins squares some) =
    found-as (λ Q k. of_node_line before line behind square e begins squares k) (find-line P _ square some)
find-lines P lines (of_runs prefix behind runs e h some) = found-as (λ Q k. of_runs prefix behind runs e h k) (find-runs P runs some)

find-root : (P : Tree → Type 0) (u : Universe) (n : ℕ) → SomeRoot MAX_LEVEL P u n → Found P (λ Q. SomeRoot MAX_LEVEL Q u n)
find-root P u n (trimmed_root lower p) = record { square = whole MAX_LEVEL u; holds = p; some = trimmed_root lower refl }
find-root P u n (grown_root level higher least p) = found-as (λ Q k. grown_root level higher least k) (find-part P (centred_square u.cell level) p)

find-about : (P : Tree → Type 0) (f : ℤ → ℤ → ℕ) → SomeAboutMiddle P f → Found P (λ Q. SomeAboutMiddle Q f)
find-about P f s = elim s.some [
  | inl rest ↦
      found-as (λ Q k. record { level = s.level; low = s.low; high = s.high; least = s.least; some = inl k }) (find-square P _ _ rest)
  | inr whole ↦
      record {
        square = whole.square;
        holds = whole.property;
        some = record {
          level = s.level;
          low = s.low;
          high = s.high;
          least = s.least;
          some = inr (record { square = whole.square; full = whole.full; deep = whole.deep; cells = whole.cells; south = whole.south; property = refl });
        };
      }
]

pub find-file : (P : Tree → Type 0) (lines : List (List ℕ)) → SomeOfFile MAX_LEVEL P lines → Found P (λ Q. SomeOfFile MAX_LEVEL Q lines)
find-file P lines (of_lines s) = found-as (λ Q k. of_lines k) (find-lines P lines s)
find-file P lines (at_end (of_plane u says rle s)) = found-as (λ Q k. at_end (of_plane u says rle k)) (find-about P u.cell s)
find-file P lines (at_end (of_root u says s)) = found-as (λ Q k. at_end (of_root u says k)) (find-root P u _ s)

-- ---- the law

-- a store holds no more than the list and the squares for the file
pub few-more : (bytes : List ℕ) (base : List Tree) (store : Nodes) → AllPairs ◌≢◌ (stored_squares store)
    → ((t : Tree) → Contains (stored_squares store) t → is_blank_tree t ≡ false)
    → HoldsOnly base bytes store → length (stored_squares store) ≤ length base + sufficient_for (length bytes)
few-more bytes base store distinct live only =
    let few = few_squares bytes in
    let have : (x : Tree) → Among (stored_squares store) x → Among (base ++ few.0) x = λ x h.
    let c = contains-among (stored_squares store) x h in
    elim (only x c) [
      | inl b ↦ among-left base few.0 x (among-contains base x b)
      | inr f ↦ among-right base few.0 x (among-contains few.0 x (few.2 x (live x c) f))
    ] in
    let all = pigeons (stored_squares store) (base ++ few.0) (distinct-pairs (stored_squares store) distinct) have in
    let sum = length-append base few.0 in
    let most = few.1 in
    omega (arith, all, sum, most)

pub limit_suffices : LimitSuffices
limit_suffices bytes base store distinct live only lacks =
    let lack = find-file (IsNew store) (lines_of bytes) lacks in
    let few = few_squares bytes in
    let have : (x : Tree) → Among (lack.square ∷ stored_squares store) x → Among (base ++ few.0) x = λ x a. elim a [
      | inl e ↦ among-right base few.0 x (among-contains few.0 x (subst (Contains few.0) e (few.2 lack.square lack.holds.0 lack.some)))
      | inr h ↦
          let c = contains-among (stored_squares store) x h in
          elim (only x c) [
            | inl b ↦ among-left base few.0 x (among-contains base x b)
            | inr f ↦ among-right base few.0 x (among-contains few.0 x (few.2 x (live x c) f))
          ]
    ] in
    let all = pigeons (lack.square ∷ stored_squares store) (base ++ few.0) (
      (λ a. lack.holds.1 (contains-among (stored_squares store) lack.square a)),
      distinct-pairs
          (stored_squares store) distinct,
    ) have in
    let sum = length-append base few.0 in
    let most = few.1 in
    omega (arith, all, sum, most)
