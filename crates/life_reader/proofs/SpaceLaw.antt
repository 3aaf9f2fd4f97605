-- A file needs few squares.
use Rattle.std.proofs.Common.{◌≡◌, ℕ, suc, ◌+◌, ◌-◌, ◌*◌, ◌^◌, ◌<◌, ◌≤◌, true, false, cond, List, [], ◌∷◌, ◌++◌, length, map, max, refl, ap, sym, ◌∙◌, subst, arith, inl, inr, length-append, ℤ, ◌==◌, Contains, if◌then◌else◌}
use Rattle.std.proofs.lemmas.Bool.{cases_lt}
use Rattle.std.proofs.lemmas.List.{length-map}
use Rattle.std.proofs.Math.Pow.{pow_mono}
use Rattle.std.proofs.lemmas.List.Elements.{Contains-append_left, Contains-append_right}
use Rattle.life_base.specs.Lines.{joined_lines}
use Rattle.life_base.specs.Text.{lines_of, onto_first}
use Rattle.life_base.specs.Tree.{Tree, is_blank_tree}
use Rattle.life_base.specs.declared.cell.TheConstants.{MAX_LEVEL}
use Rattle.life_base.specs.declared.cell.Run.{Run}
use Rattle.life_mc.specs.Cells.{cell_of, root_level}
use Rattle.life_mc.specs.Reading.{AcceptsMacrocell, squares_of}
use Rattle.life_mc.specs.declared.line.Line.{Line}
use Rattle.life_mc.proofs.FormatLaws.{prefixes_are_files}
use Rattle.life_rle.specs.Blocks.{HasFewBlocks}
use Rattle.life_rle.specs.File.{HasRuns}
use Rattle.life_rle.specs.Grammar.{IsRle}
use Rattle.life_rle.specs.Pattern.{Rle, rle_cell, placed_items}
use Rattle.life_rle.specs.Runs.{runs_of}
use Rattle.life_rle.specs.RunsLaw.{rle_state_by}
use Rattle.life_rle.proofs.BlockPrefixes.{few_blocks_in_prefixes}
use Rattle.life_rle.proofs.RunsLaws.{runs_are_cells}
use Rattle.life_strip.specs.Given.{by_columns}
use Rattle.life_strip.specs.Middle.{SomeAboutMiddle, SomeSouth}
use Rattle.life_strip.specs.Needed.{SomeSquare}
use Rattle.life_strip.proofs.NeededLemmas.{SomeSquare-within}
use Rattle.life_pattern.specs.Files.{Says, as_macrocell, as_rle, is_macrocell}
use Rattle.life_reader.specs.Needs.{SomeOfRuns, of_node_line, of_runs, of_plane, of_root, SomeOfFile, of_lines, at_end, SomeRoot, level_of_root}
use Rattle.life_reader.specs.Space.{FewSquares}
use Rattle.life_pattern.specs.Universe.{Universe}
use Rattle.life_pattern.proofs.Formats.{macrocell-first, rle-first}
use Rattle.life_reader.proofs.MiddleSquares.{south-trimmed, whole-square}
use Rattle.life_pattern.proofs.SpaceLists.{Among, contains-among}
use Rattle.life_reader.proofs.SpaceNodes.{nodes, nodes-have, nodes-few}
use Rattle.life_reader.proofs.SpaceRoots.{trimmed_roots, plane-root, all_roots, all_roots-few, any-root}
use Rattle.life_reader.proofs.SpaceRuns.{squares-of-runs}
use Rattle.life_reader.proofs.SpaceTrees.{block_tree, square-of-block}
use Rattle.life_pattern.proofs.Trees.{bool_cases}
use Rattle.life_base.proofs.Basics.{true_false}

-- ---- bytes

onto-longer : (b : ℕ) (lines : List (List ℕ)) (n : ℕ) → length (joined_lines lines) ≤ n + 1 → length (joined_lines (onto_first b lines)) ≤ suc n + 1
onto-longer b [] n h = omega arith
onto-longer b (line ∷ lines) n h = omega (arith, h)

lines-few : (bytes : List ℕ) → length (joined_lines (lines_of bytes)) ≤ length bytes + 1
lines-few [] = omega arith
lines-few (b ∷ bytes) =
    let rest = lines-few bytes in
    elim (b == 10) as (λ t. length (joined_lines (if t then [] ∷ lines_of bytes else onto_first b (lines_of bytes))) ≤ length (b ∷ bytes) + 1)
    [ true ↦ omega (arith, rest) | false ↦ let h = onto-longer b (lines_of bytes) (length bytes) rest in omega (arith, h) ]

-- ---- which format

same-first : (before behind : List (List ℕ)) (line : List ℕ) → is_macrocell (before ++ line ∷ behind) ≡ is_macrocell (before ++ line ∷ [])
same-first [] behind line = refl
same-first (first ∷ before) behind line = refl

pub no-nodes : (lines before behind : List (List ℕ)) (line : List ℕ) → lines ≡ before ++ line ∷ behind → AcceptsMacrocell MAX_LEVEL (before ++ line ∷ [])
    → is_macrocell lines ≡ true
no-nodes lines before behind line e a = ap is_macrocell e ∙ same-first before behind line ∙ macrocell-first MAX_LEVEL (before ++ line ∷ []) a.0 a.1

none : {A : Type 0} (before : List A) (x : A) (behind : List A) → [] ≡ before ++ x ∷ behind → ⊥
none [] x behind e = cc
none (y ∷ before) x behind e = cc

pub no-runs : (lines prefix behind : List (List ℕ)) (runs : List Run) → is_macrocell lines ≡ true → lines ≡ prefix ++ behind → HasRuns MAX_LEVEL prefix runs
    → runs ≡ []
no-runs lines prefix behind runs m e (inl h) = h.2
no-runs lines [] behind runs m e (inr (file, inl h, r)) = absurd (none h.before _ _ h.whole)
no-runs lines [] behind runs m e (inr (file, inr h, r)) = absurd (none h.prefix _ _ h.whole)
no-runs lines (line ∷ prefix) behind runs m e (inr h) = absurd (rle-first MAX_LEVEL (line ∷ prefix) h.0 h.1 (ap is_macrocell (sym e) ∙ m))

pub none-of-none : (P : Tree → Type 0) (runs : List Run) → runs ≡ [] → SomeOfRuns P runs → ⊥
none-of-none P runs e s = none s.before _ _ (sym e ∙ s.are)

-- ---- a macrocell file

module _ (lines : List (List ℕ)) (m : is_macrocell lines ≡ true) where
  abbrev states : ℤ → ℤ → ℕ
  states = cell_of (squares_of lines)

  abbrev pub node_squares : List Tree
  node_squares = nodes [] lines ++ all_roots states

  node-root : (u : Universe) (t : Tree) → Says MAX_LEVEL lines u → SomeRoot MAX_LEVEL (λ v. v ≡ t) u (level_of_root MAX_LEVEL lines)
      → Among (all_roots states) t
  node-root _ t (as_rle file h) s = absurd (rle-first MAX_LEVEL lines file h m)
  node-root u t (as_macrocell file a) s =
      subst (λ (ls : List Line). Among (all_roots (cell_of ls)) t) a.squares (any-root u t (level_of_root MAX_LEVEL lines) s)

  node-squares-have : (t : Tree) → SomeOfFile MAX_LEVEL (λ v. v ≡ t) lines → Contains node_squares t
  node-squares-have t (of_lines (of_node_line before line behind square e begins squares some)) =
      let has = nodes-have [] before behind line square t squares some in
      Contains-append_left (nodes [] lines) (all_roots states) t
      (contains-among (nodes [] lines) t (subst (λ (ls : List (List ℕ)). Among (nodes [] ls) t) (sym e) has))
  node-squares-have t (of_lines (of_runs prefix behind runs e h some)) = absurd (none-of-none (λ v. v ≡ t) runs (no-runs lines prefix behind runs m e h) some)
  node-squares-have t (at_end (of_plane u says rle some)) = absurd (true_false _ m rle)
  node-squares-have t (at_end (of_root u says some)) =
      Contains-append_right (nodes [] lines) (all_roots states) t (contains-among (all_roots states) t (node-root u t says some))

  node-squares-few : length node_squares ≤ 14 * length (joined_lines lines) + 29
  node-squares-few =
      let a = length-append (nodes [] lines) (all_roots states) in
      let b = nodes-few [] lines in
      let c = all_roots-few states in
      omega (arith, a, b, c)

-- ---- an RLE file

module _ (lines : List (List ℕ)) (m : is_macrocell lines ≡ false) (few : HasFewBlocks MAX_LEVEL lines) where
  abbrev run_states : ℤ → ℤ → ℕ
  run_states = rle_state_by few.runs

  abbrev pub run_squares : List Tree
  run_squares = map (block_tree run_states) few.blocks ++ trimmed_roots run_states

  pub file-states : (file : Rle) → IsRle MAX_LEVEL lines file → rle_cell file ≡ run_states
  file-states file h =
      let cells : rle_cell file ≡ rle_state_by (runs_of (placed_items file)) = (λ i x y. (runs_are_cells MAX_LEVEL lines file h).2 x y i) in
      cells ∙ ap rle_state_by (sym (few.whole file h))

  of-block : (t : Tree) → is_blank_tree t ≡ false → SomeSquare (λ v. v ≡ t) (2 ^ MAX_LEVEL) (by_columns run_states) → Contains run_squares t
  of-block t some s =
      Contains-append_left (map (block_tree run_states) few.blocks) (trimmed_roots run_states) t
      (square-of-block run_states few.blocks t (2 ^ MAX_LEVEL) few.all some s)

  -- the square about (0, 0): that of the plane, or a trimmed one
  about-south : (t : Tree) → is_blank_tree t ≡ false → (s : SomeAboutMiddle (λ v. v ≡ t) run_states) → SomeSouth (λ v. v ≡ t) s.level run_states
      → Contains run_squares t
  about-south t live s whole = elim (cases_lt s.level MAX_LEVEL) [
    | inl lt ↦
        (let e : whole.square ≡ t = whole.property in
        let is = south-trimmed run_states s.level whole.square s.low s.high s.least whole.full whole.deep whole.cells whole.south
        (ap is_blank_tree e ∙ live) in
        Contains-append_right (map (block_tree run_states) few.blocks) (trimmed_roots run_states) t
        (contains-among (trimmed_roots run_states) t (inl (is ∙ e))))
    | inr le ↦
        (let h = s.high in
        let d = whole.deep in
        of-block t live (subst (λ (q : Tree). SomeSquare (λ v. v ≡ q) (2 ^ MAX_LEVEL) (by_columns run_states)) whole.property
        (whole-square run_states whole.square whole.full (omega (arith, d, h, le)) whole.cells)))
  ]

  about-square : (t : Tree) → is_blank_tree t ≡ false → SomeAboutMiddle (λ v. v ≡ t) run_states → Contains run_squares t
  about-square t live s = elim s.some [
    | inl rest ↦
        (let h = s.high in
        let p = pow_mono {i = s.level - 1} {j = MAX_LEVEL - 1} (omega (arith, h)) in
        of-block t live (SomeSquare-within (omega (arith, p)) (λ i j li lj. refl) rest))
    | inr whole ↦ about-south t live s whole
  ]

  plane-square : (u : Universe) (t : Tree) → is_blank_tree t ≡ false → Says MAX_LEVEL lines u → SomeAboutMiddle (λ v. v ≡ t) u.cell
      → Contains run_squares t
  plane-square _ t some (as_macrocell file a) s = absurd (true_false _ (macrocell-first MAX_LEVEL lines file a) m)
  plane-square u t some (as_rle file h) s = about-square t some (subst (SomeAboutMiddle (λ v. v ≡ t)) (file-states file h) s)

  run-root : (u : Universe) (t : Tree) → Says MAX_LEVEL lines u → SomeRoot MAX_LEVEL (λ v. v ≡ t) u (level_of_root MAX_LEVEL lines) → Contains run_squares t
  run-root _ t (as_macrocell file a) s = absurd (true_false _ (macrocell-first MAX_LEVEL lines file a) m)
  run-root u t (as_rle file h) s =
      let level : level_of_root MAX_LEVEL lines ≡ MAX_LEVEL = ap (λ b. cond b (max 1 (root_level (squares_of lines))) MAX_LEVEL) m in
      let has = plane-root u t (subst (SomeRoot MAX_LEVEL (λ v. v ≡ t) u) level s) in
      Contains-append_right (map (block_tree run_states) few.blocks) (trimmed_roots run_states) t
      (contains-among (trimmed_roots run_states) t (subst (λ (f : ℤ → ℤ → ℕ). Among (trimmed_roots f) t) (file-states file h) has))

  run-squares-have : (t : Tree) → is_blank_tree t ≡ false → SomeOfFile MAX_LEVEL (λ v. v ≡ t) lines → Contains run_squares t
  run-squares-have t live (of_lines (of_node_line before line behind square e begins squares some)) =
      let n : 0 < length (before ++ line ∷ []) = let k = length-append before (line ∷ []) in omega (arith, k) in
      absurd (true_false _ (no-nodes lines before behind line e ((prefixes_are_files MAX_LEVEL (before ++ line ∷ []) n).0 begins)) m)
  run-squares-have t live (of_lines (of_runs prefix behind runs e h some)) =
      let more = few.most prefix behind runs e h in
      of-block t live (squares-of-runs (λ v. v ≡ t) few.rule runs more.0 few.runs more.1 few.good few.order some)
  run-squares-have t live (at_end (of_plane u says rle some)) = plane-square u t live says some
  run-squares-have t live (at_end (of_root u says some)) = run-root u t says some

  run-squares-few : length run_squares ≤ 14 * length (joined_lines lines) + 250
  run-squares-few =
      let a = length-append (map (block_tree run_states) few.blocks) (trimmed_roots run_states) in
      let b = length-map few.blocks (block_tree run_states) in
      let d = few.few in
      omega (arith, a, b, d)

-- ---- a file of either format

pub few_squares : FewSquares
few_squares bytes = elim (bool_cases (is_macrocell (lines_of bytes))) [
  | inl m ↦
      let size = lines-few bytes in
      let few = node-squares-few (lines_of bytes) m in
      (node_squares (lines_of bytes) m, omega (arith, size, few), λ t live s. node-squares-have (lines_of bytes) m t s)
  | inr m ↦
      let size = lines-few bytes in
      let blocks = few_blocks_in_prefixes MAX_LEVEL (lines_of bytes) in
      let few = run-squares-few (lines_of bytes) m blocks in
      (run_squares (lines_of bytes) m blocks, omega (arith, size, few), λ t live s. run-squares-have (lines_of bytes) m blocks t live s)
]
