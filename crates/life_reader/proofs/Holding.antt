-- Where a file was read to its end, the store holds every square of it that isn't blank.
use Rattle.std.proofs.Common.{◌≡◌, ℕ, suc, ◌+◌, ◌-◌, ◌^◌, ◌<◌, ◌≤◌, true, false, List, [], ◌∷◌, ◌++◌, length, take, get_or, refl, ap, sym, ◌∙◌, subst, arith, inl, inr, Some, ℤ, append_assoc, length-append, slice_get, Contains, Result, Ok, Err, IfOk, OnOk}
use Rattle.std.proofs.lemmas.List.Elements.{filter_map-append}
use Rattle.std.proofs.lemmas.Option.{slice_get-get_or}
use Rattle.std.proofs.Math.Seq.{take-append_seam}
use Rattle.life_base.specs.Refusal.{Prefix}
use Rattle.life_base.specs.Text.{lines_of}
use Rattle.life_base.specs.Tree.{Tree, depth, tree_cell, is_blank_tree, IsFull}
use Rattle.life_base.specs.declared.cell.TheConstants.{MAX_LEVEL}
use Rattle.life_base.specs.declared.rule.Rule.{Rule}
use Rattle.life_mc.specs.Macrocell.{Macrocell, IsValidMacrocell, level_of}
use Rattle.life_mc.specs.Reading.{AcceptsMacrocell, AreMacrocell, squares_of, square_on}
use Rattle.life_mc.specs.Squares.{line_tree, tree_of}
use Rattle.life_mc.specs.declared.line.Line.{Line}
use Rattle.life_mc.specs.declared.line.Line.TheVariants.{Leaf, Quad}
use Rattle.life_mc.proofs.Accepted.{lines_are_valid}
use Rattle.life_mc.proofs.FormatLaws.{prefixes_are_files}
use Rattle.life_mc.proofs.Squares.{lines_stand_for_squares}
use Rattle.life_quad.specs.Refused.{SomePart}
use Rattle.life_quad.specs.Store.{Nodes, stored_squares}
use Rattle.life_quad.specs.StoreLaws.{full_content}
use Rattle.life_quad.specs.declared.id.Id.{Id}
use Rattle.life_rle.specs.RunsLaw.{rle_state_by}
use Rattle.life_rle.proofs.BlockPrefixes.{few_blocks_in_prefixes}
use Rattle.life_strip.specs.Given.{by_columns, half_plane}
use Rattle.life_strip.specs.Middle.{AreSouth, IsLeastSouth, IsSouthLevel, SomeAboutMiddle}
use Rattle.life_strip.specs.Needed.{SomeSquare}
use Rattle.life_pattern.specs.Files.{Reads, Says, as_macrocell, as_rle, is_macrocell}
use Rattle.life_reader.specs.Filling.{AreSquaresOf}
use Rattle.life_reader.specs.Needs.{SomeOfLine, of_node_line, of_runs, grown_times, SomeRoot, trimmed_root, grown_root, SomeOfFile, of_lines, at_end, of_plane, of_root, level_of_root}
use Rattle.life_reader.specs.Space.{HoldsFile}
use Rattle.life_pattern.specs.Store.{IsKnown, IsPatternOf, content}
use Rattle.life_pattern.specs.Universe.{Universe, centred_square, least_level, whole, macrocell_universe}
use Rattle.life_pattern.specs.declared.pattern.Pattern.{Pattern}
use Rattle.life_pattern.proofs.ReadFacts.{root-deep}
use Rattle.life_pattern.proofs.Formats.{files_say_one, macrocell-first}
use Rattle.life_reader.proofs.PrefixFacts.{top-level}
use Rattle.life_reader.proofs.GrowFacts.{last-tree}
use Rattle.life_reader.proofs.Known.{known-held, part-held}
use Rattle.life_reader.proofs.NeedFacts.{grown-centred, is-centred}
use Rattle.life_reader.proofs.PatternFacts.{next-square}
use Rattle.life_reader.proofs.MiddleParts.{IsRoot, square-in-root}
use Rattle.life_reader.proofs.MiddleSquares.{about-rows}
use Rattle.life_reader.proofs.SpaceLaw.{file-states, no-nodes, no-runs, none-of-none}
use Rattle.life_reader.proofs.SpaceRoots.{least-three}
use Rattle.life_reader.proofs.SpaceRuns.{south-of-runs}
use Rattle.life_base.proofs.Basics.{true_false}

-- ---- node lines

of-line : (P : Tree → Type 0) (lines : List Line) (square : Line) → SomeOfLine P lines square
    → SomePart P (line_tree (tree_of lines (level_of square - 1)) square)
of-line P lines (Leaf rows) s = s
of-line P lines (Quad level nw ne sw se) s = inl s

get-behind : (lines more : List Line) (square : Line) → slice_get (lines ++ square ∷ more) (length lines) ≡ Some square
get-behind [] more square = refl
get-behind (line ∷ lines) more square = get-behind lines more square

-- the squares of the first lines are the first ones
squares-more : (prefix more : List (List ℕ)) → 0 < length prefix → (rest : List Line) × (squares_of (prefix ++ more) ≡ squares_of prefix ++ rest)
squares-more [] more some = absurd (omega (arith, some))
squares-more (header ∷ prefix) more some = (_, filter_map-append square_on prefix more)

-- the Id of a line names the square that the lines before it say
module _ (store : Nodes) (file : Macrocell) (ids : List Id) (good : IsValidMacrocell MAX_LEVEL file)
    (are : AreSquaresOf (IsKnown store) (content store) file.lines ids) where
  line-known : (before : List (List ℕ)) (square : Line) (rest : List Line) (rule : Rule) (generation : ℕ)
      → IsValidMacrocell MAX_LEVEL (record { rule = rule; generation = generation; lines = squares_of before ++ square ∷ [] })
      → file.lines ≡ (squares_of before ++ square ∷ []) ++ rest
      → (id : Id) × IsKnown store id × (content store id ≡ line_tree (tree_of (squares_of before) (level_of square - 1)) square)
  line-known before square rest rule generation valid e =
      let first = squares_of before in
      let n : ℕ = length first in
      let there : slice_get file.lines n ≡ Some square =
      ap (λ (ls : List Line). slice_get ls n) (e ∙ append_assoc first (square ∷ []) rest) ∙ get-behind first rest square in
      let size = ap length e ∙ length-append (first ++ square ∷ []) rest in
      let longer = length-append first (square ∷ []) in
      let none : Id = record { 0 = 0 } in
      let id : Id = get_or ids n none in
      let one = are.each n id square (slice_get-get_or ids n none (omega (arith, size, longer, are.count))) there in
      let long : suc n ≡ length (first ++ square ∷ []) = omega (arith, longer) in
      let consumed : take (suc n) file.lines ≡ first ++ square ∷ [] =
      ap (λ (k : ℕ). take k file.lines) long ∙ ap (take (length (first ++ square ∷ []))) e ∙ take-append_seam (first ++ square ∷ []) rest in
      let stands = (lines_stand_for_squares MAX_LEVEL file good).each (suc n) square there in (
        id,
        one.0,
        one.1 ∙ sym stands.by_prefix ∙ ap (λ (ls : List Line). tree_of ls (level_of square) (suc n)) consumed ∙ last-tree rule generation first square valid,
      )

  node-held : (lines before behind : List (List ℕ)) (line : List ℕ) (square : Line) → file.lines ≡ squares_of lines → lines ≡ before ++ line ∷ behind
      → Prefix (AcceptsMacrocell MAX_LEVEL) (before ++ line ∷ []) → squares_of (before ++ line ∷ []) ≡ squares_of before ++ square ∷ []
      → (t : Tree) → is_blank_tree t ≡ false → SomeOfLine (λ v. v ≡ t) (squares_of before) square → Contains (stored_squares store) t
  node-held lines before behind line square whole e begins squares t live some =
      let next = next-square before (before ++ line ∷ []) line square refl begins squares in
      let longer = length-append before (line ∷ []) in
      let more = squares-more (before ++ line ∷ []) behind (omega (arith, longer)) in
      let all : file.lines ≡ (squares_of before ++ square ∷ []) ++ more.0 =
      whole ∙ ap squares_of (e ∙ sym (append_assoc before (line ∷ []) behind)) ∙ more.1 ∙ ap (λ (ls : List Line). ls ++ more.0) squares in
      let known = line-known before square more.0 next.rule next.generation next.valid all in
      part-held store known.0 (line_tree (tree_of (squares_of before) (level_of square - 1)) square) t known.1 known.2 live
      (of-line (λ v. v ≡ t) (squares_of before) square some)

-- ---- roots

-- the store knows the root of the pattern, and the squares about (0, 0) through which it was grown from a level
pub record HasRoots (store : Nodes) (u : Universe) (level : ℕ) : Type 0 where
  pub root : Id
  pub known : IsKnown store root
  pub is : content store root ≡ whole MAX_LEVEL u
  pub deep : 1 ≤ depth (content store root)
  pub grown : (n : ℕ) → level < n → n ≤ least_level u.rule → (id : Id) × IsKnown store id × (content store id ≡ centred_square u.cell n)

root-held : (store : Nodes) (u : Universe) (level : ℕ) → HasRoots store u level → (t : Tree) → is_blank_tree t ≡ false
    → SomeRoot MAX_LEVEL (λ v. v ≡ t) u level → Contains (stored_squares store) t
root-held store u level has t live (trimmed_root lower is) =
    let same = has.is ∙ is in
    known-held store has.root has.known t same live (subst (λ (v : Tree). 1 ≤ depth v) same has.deep)
root-held store u level has t live (grown_root n higher least some) =
    let id = has.grown n higher least in
    part-held store id.0 (centred_square u.cell n) t id.1 id.2 live some

-- no root is grown from the level of the whole plane
pub none-grown : {P : Type 0} (rule : Rule) (n : ℕ) → MAX_LEVEL < n → n ≤ least_level rule → P
none-grown rule n higher least = let three = least-three rule in absurd (omega (arith, higher, least, three))

-- a square that is grown from one with the cells of a pattern is that about (0, 0) of its level
pub grown-root : (store : Nodes) (u : Universe) (t : Tree) → IsFull t → 1 ≤ depth t → ((x y : ℤ) → tree_cell t x y ≡ u.cell x y)
    → ((more : ℕ) → depth t + suc more ≤ least_level u.rule → (id : Id) × IsKnown store id × (content store id ≡ grown_times (suc more) t))
    → (n : ℕ) → depth t < n → n ≤ least_level u.rule → (id : Id) × IsKnown store id × (content store id ≡ centred_square u.cell n)
grown-root store u t full high cells grown n higher least =
    let k : ℕ = depth t - 1 in
    let more : ℕ = n - depth t - 1 in
    let d : depth t ≡ suc k = omega (arith, high) in
    let c = is-centred u.cell t k full d cells in
    let id = grown more (omega (arith, higher, least)) in
    let level : suc (suc more + k) ≡ n = omega (arith, d, higher) in
    (id.0, id.1, id.2 ∙ grown-centred u.cell (suc more) k t c.0 c.1 ∙ ap (centred_square u.cell) level)

-- ---- a file of either format

-- the store knows the squares of the node lines
pub macrocell-held : (store : Nodes) (lines : List (List ℕ)) (file : Macrocell) (ids : List Id) → is_macrocell lines ≡ true
    → AreMacrocell MAX_LEVEL lines file → IsValidMacrocell MAX_LEVEL file → AreSquaresOf (IsKnown store) (content store) file.lines ids
    → HasRoots store (macrocell_universe file) (level_of_root MAX_LEVEL lines)
    → (t : Tree) → is_blank_tree t ≡ false → SomeOfFile MAX_LEVEL (λ v. v ≡ t) lines → Contains (stored_squares store) t
macrocell-held store lines file ids m is good are roots t live (of_lines (of_node_line before line behind square e begins squares some)) =
    node-held store file ids good are lines before behind line square is.squares e begins squares t live some
macrocell-held store lines file ids m is good are roots t live (of_lines (of_runs prefix behind runs e h some)) =
    absurd (none-of-none (λ v. v ≡ t) runs (no-runs lines prefix behind runs m e h) some)
macrocell-held store lines file ids m is good are roots t live (at_end (of_plane u says rle some)) = absurd (true_false _ m rle)
macrocell-held store lines file ids m is good are roots t live (at_end (of_root u says some)) =
    let same = files_say_one MAX_LEVEL lines u (macrocell_universe file) says (as_macrocell file is) in
    root-held store (macrocell_universe file) (level_of_root MAX_LEVEL lines) roots t live
    (subst (λ (v : Universe). SomeRoot MAX_LEVEL (λ w. w ≡ t) v (level_of_root MAX_LEVEL lines)) same some)

-- the store knows the square about (0, 0) with all cells
module _ (store : Nodes) (lines : List (List ℕ)) (u : Universe) (rle : is_macrocell lines ≡ false) (says : Says MAX_LEVEL lines u) (plane : Id)
    (known : IsKnown store plane) (n : ℕ) (root : IsRoot u.cell n (content store plane)) (least : IsLeastSouth n u.cell)
    (roots : HasRoots store u MAX_LEVEL) where
  square-held : (t : Tree) → is_blank_tree t ≡ false → SomeSquare (λ v. v ≡ t) (half_plane + 2 ^ (n - 1)) (by_columns u.cell)
      → Contains (stored_squares store) t
  square-held t live s = part-held store plane (content store plane) t known refl live (square-in-root u.cell n (content store plane) t root live s)

  about-held : (t : Tree) → is_blank_tree t ≡ false → SomeAboutMiddle (λ v. v ≡ t) u.cell → Contains (stored_squares store) t
  about-held t live s = elim (about-rows u.cell n (content store plane) t root least live s) [
    | inl rest ↦ square-held t live rest
    | inr same ↦ (let d = root.deep in let l = root.low in let e = ap depth same in known-held store plane known t same live (omega (arith, d, l, e)))
  ]

  -- the states of all runs
  states : rle_state_by (few_blocks_in_prefixes MAX_LEVEL lines).runs ≡ u.cell
  states = by u says
    where
      by : (v : Universe) → Says MAX_LEVEL lines v → rle_state_by (few_blocks_in_prefixes MAX_LEVEL lines).runs ≡ v.cell
      by _ (as_macrocell file a) = absurd (true_false _ (macrocell-first MAX_LEVEL lines file a) rle)
      by _ (as_rle file h) = sym (file-states lines rle (few_blocks_in_prefixes MAX_LEVEL lines) file h)

  pub rle-held : (t : Tree) → is_blank_tree t ≡ false → SomeOfFile MAX_LEVEL (λ v. v ≡ t) lines → Contains (stored_squares store) t
  rle-held t live (of_lines (of_node_line before line behind square e begins squares some)) =
      let longer = length-append before (line ∷ []) in
      let file = (prefixes_are_files MAX_LEVEL (before ++ line ∷ []) (omega (arith, longer))).0 begins in
      absurd (true_false _ (no-nodes lines before behind line e file) rle)
  rle-held t live (of_lines (of_runs prefix behind runs e h some)) =
      let few = few_blocks_in_prefixes MAX_LEVEL lines in
      let more = few.most prefix behind runs e h in
      square-held t live
      (subst (λ (f : ℤ → ℤ → ℕ). SomeSquare (λ v. v ≡ t) (half_plane + 2 ^ (n - 1)) (by_columns f)) states
      (south-of-runs (λ v. v ≡ t) few.rule runs more.0 few.runs more.1 few.good few.order n root.high
      (λ lt. subst (AreSouth n) (sym states) (root.south lt)) some))
  rle-held t live (at_end (of_plane v other format some)) =
      let same = files_say_one MAX_LEVEL lines v u other says in
      about-held t live (subst (λ (w : Universe). SomeAboutMiddle (λ v. v ≡ t) w.cell) same some)
  rle-held t live (at_end (of_root v other some)) =
      let same = files_say_one MAX_LEVEL lines v u other says in
      root-held store u MAX_LEVEL roots t live
      (subst (SomeRoot MAX_LEVEL (λ w. w ≡ t) u) (top-level lines rle)
      (subst (λ (w : Universe). SomeRoot MAX_LEVEL (λ v. v ≡ t) w (level_of_root MAX_LEVEL lines)) same some))

-- ---- the end of a file

-- the root of a pattern that was read
roots-of : (store : Nodes) (bytes : List ℕ) (u : Universe) (pattern : Pattern) (level : ℕ) → Reads MAX_LEVEL bytes u
    → IsPatternOf MAX_LEVEL (IsKnown store) (content store) u pattern
    → ((n : ℕ) → level < n → n ≤ least_level u.rule → (id : Id) × IsKnown store id × (content store id ≡ centred_square u.cell n)) → HasRoots store u level
roots-of store bytes u pattern level reads is grown = record {
  root = pattern.root;
  known = is.known;
  is = is.root;
  deep = root-deep bytes store pattern (record { universe = u; reads = reads; is = is });
  grown = grown;
}

-- of an RLE file: the store knows the square about (0, 0) with all cells
pub rle-holds : (store : Nodes) (bytes : List ℕ) (u : Universe) (pattern : Pattern) (plane : Id) → is_macrocell (lines_of bytes) ≡ false
    → Reads MAX_LEVEL bytes u → IsPatternOf MAX_LEVEL (IsKnown store) (content store) u pattern → IsKnown store plane
    → IsSouthLevel (depth (content store plane)) u.cell → ((x y : ℤ) → tree_cell (content store plane) x y ≡ u.cell x y)
    → HoldsFile bytes (stored_squares store)
rle-holds store bytes u pattern plane rle reads is known level cells =
    let root : IsRoot u.cell (depth (content store plane)) (content store plane) =
    record { full = full_content store plane known.0; deep = refl; low = level.low; high = level.high; south = level.south; cells = cells } in
    rle-held store (lines_of bytes) u rle reads plane known (depth (content store plane)) root level.least
    (roots-of store bytes u pattern MAX_LEVEL reads is (λ n h l. none-grown u.rule n h l))

-- of a macrocell file: the store knows the squares of its lines, and those through which the last of them was grown
pub macrocell-holds : (store : Nodes) (bytes : List ℕ) (file : Macrocell) (ids : List Id) (pattern : Pattern) (last : Id)
    → is_macrocell (lines_of bytes) ≡ true → AreMacrocell MAX_LEVEL (lines_of bytes) file → AreSquaresOf (IsKnown store) (content store) file.lines ids
    → IsPatternOf MAX_LEVEL (IsKnown store) (content store) (macrocell_universe file) pattern → IsKnown store last
    → 1 ≤ depth (content store last) → depth (content store last) ≡ level_of_root MAX_LEVEL (lines_of bytes)
    → ((x y : ℤ) → tree_cell (content store last) x y ≡ (macrocell_universe file).cell x y)
    → ((more : ℕ) → depth (content store last) + suc more ≤ least_level file.rule
    → (id : Id) × IsKnown store id × (content store id ≡ grown_times (suc more) (content store last)))
    → HoldsFile bytes (stored_squares store)
macrocell-holds store bytes file ids pattern last m are squares is known high level cells grown =
    let u = macrocell_universe file in
    let roots = grown-root store u (content store last) (full_content store last known.0) high cells grown in
    macrocell-held store (lines_of bytes) file ids m are (lines_are_valid MAX_LEVEL (lines_of bytes) file are) squares
    (subst (HasRoots store u) level (roots-of store bytes u pattern (depth (content store last)) (as_macrocell file are) is roots))

-- ---- what holds of an answer

-- by what holds of its value
pub ok-both : {T E P R : Type 0} {Q : T → Type 0} (r : Result T E) → IfOk r Q → OnOk r R → ((x : T) → Q x → R → P) → OnOk r P
ok-both (Ok x) q s f = f x q s
ok-both (Err e) q s f = tt
