-- What a step row by row leaves is the next generation of the pattern of its file.
use Rattle.std.proofs.Common.{◌≡◌, ◌≢◌, ℕ, ◌+◌, ◌-◌, ◌^◌, ◌<◌, ◌≤◌, inr, ℤ, pos, ◌-ℤ◌, List, [], ◌∷◌, ◌++◌, append_assoc, Option, Some, None, Result, Ok, Err, IfOk, IfSome, OnOk, refl, sym, ◌∙◌, ap, subst, arith}
use Rattle.std.specs.Result.{result_ok}
use Rattle.std.proofs.lemmas.List.{map-append}
use Rattle.life_base.specs.Sets.{OuterTotalistic}
use Rattle.life_base.specs.Text.{lines_of, numbered_from}
use Rattle.life_base.specs.Tree.{Tree, depth, tree_cell}
use Rattle.life_base.specs.declared.cell.Run.{Run}
use Rattle.life_base.specs.declared.cell.TheConstants.{MAX_LEVEL}
use Rattle.life_base.specs.declared.rule.Rule.{Rule}
use Rattle.life_base.specs.declared.rule.Rule.TheVariants.{Life}
use Rattle.life_base.proofs.NumberedLines.{lines_around, numbered_texts, texts}
use Rattle.life_quad.specs.Refused.{TrimmedTo}
use Rattle.life_quad.specs.Store.{Nodes}
use Rattle.life_quad.specs.declared.id.Id.{Id}
use Rattle.life_quad.proofs.LawLemmas.{known_squares_are_full}
use Rattle.life_rle.specs.File.{HasRuns}
use Rattle.life_rle.specs.Grammar.{IsRle}
use Rattle.life_rle.specs.Pattern.{Rle}
use Rattle.life_rows.specs.Needed.{SomeNextAbove}
use Rattle.life_rows.specs.Stepping.{run_cells}
use Rattle.life_strip.specs.Given.{by_columns, half_plane, state_by}
use Rattle.life_strip.proofs.NeededLemmas.{SomeSquare-within}
use Rattle.life_next.specs.Generation.{next_life}
use Rattle.life_pattern.specs.Files.{Says, as_rle}
use Rattle.life_pattern.specs.Store.{IsKnown, content}
use Rattle.life_pattern.specs.Universe.{Universe, IsSame, least_level, rle_universe, square_universe}
use Rattle.life_reader.proofs.PatternFacts.{file-cells}
use Rattle.life_step.specs.ByRows.{HasHeaderRule, IsNextOfFile, SomeByRows, SomeNextOfLines, of_first_lines, of_next_plane, of_trimmed_plane}
use Rattle.life_step.specs.Refusals.{LeavesByRule, LifeRefusal, PatternHasMoreCells, RuleRefusal}
use Rattle.life_step.specs.Stepped.{IsStepped, IsTextWith}
use Rattle.life_step.proofs.RefusalFacts.{blank-outside}
use Rattle.life_step.proofs.RunCells.{few-cells}
use Rattle.life_step.proofs.StepFacts.{life-stepped, same-next}

-- ---- what is left of a result without its error

pub ok-of-some : {T E : Type 0} (P : T → Type 0) (x : T) (r : Result T E) → Some x ≡ result_ok r → IfOk r P → P x
ok-of-some P x (Ok y) e h = subst P (by e) h
  where
    by : Some x ≡ Some y → y ≡ x
    by e = cc
ok-of-some P x (Err fault) e h = absurd (by e)
  where
    by : Some x ≡ None → ⊥
    by e = cc

pub on-some : {T E : Type 0} (P : Type 0) (x : T) (r : Result T E) → Some x ≡ result_ok r → OnOk r P → P
on-some P x (Ok y) e h = h
on-some P x (Err fault) e h = absurd (by e)
  where
    by : Some x ≡ None → ⊥
    by e = cc

pub some-of-ok : {T E : Type 0} (P : T → Type 0) (o : Option T) (r : Result T E) → o ≡ result_ok r → IfOk r P → IfSome o P
some-of-ok P o (Ok x) e h = subst (λ q. IfSome q P) (sym e) h
some-of-ok P o (Err fault) e h = subst (λ q. IfSome q P) (sym e) tt

-- ---- a file and its runs

-- a pattern of runs has no more cells that aren't 0 than the runs have cells
few : (runs : List Run) (u : Universe) (most : ℕ) → ((x y : ℤ) → state_by runs x y ≡ u.cell x y) → run_cells runs ≤ most → ¬ PatternHasMoreCells most u
few runs u most same small h =
    let all = few-cells runs h.0 h.1.in_order (λ d k e. let t = h.1.true_cells d k in t.1 (sym t.0 ∙ sym (same d.x d.y) ∙ e)) in
    let more = h.2 in
    omega (arith, all, more, small)

-- the lines are the file, and the square has the next generation of their runs
pub next-of-file : (bytes : List ℕ) (lines : List (List ℕ)) (file : Rle) (runs : List Run) (rule : OuterTotalistic) (store : Nodes) (generation : ℕ)
    (square : Id) → lines ≡ lines_of bytes → IsRle MAX_LEVEL lines file → HasRuns MAX_LEVEL lines runs → file.rule ≡ Life rule
    → file.position.generation ≡ generation → run_cells runs ≤ 2 ^ 20 → IsKnown store square → depth (content store square) ≡ MAX_LEVEL
    → ((x y : ℤ) → tree_cell (content store square) x y ≡ next_life rule (state_by runs) x y) → IsNextOfFile bytes rule store generation square
next-of-file bytes lines file runs rule store generation square all is are same at small known level cells =
    let u : Universe = rle_universe file in
    let states : (x y : ℤ) → state_by runs x y ≡ u.cell x y = file-cells lines runs file are is in
    record {
      universe = u;
      reads = subst (λ (ls : List (List ℕ)). Says MAX_LEVEL ls u) all (as_rle file is);
      rule_is = same;
      generation_is = at;
      few = few runs u (2 ^ 20) states small;
      known = known;
      level = level;
      cells = λ x y. cells x y ∙ same-next rule (state_by runs) u.cell states x y;
    }

-- the text of that square is the one of the step
pub stepped-by-rows : (bytes : List ℕ) (rule : OuterTotalistic) (store : Nodes) (generation after : ℕ) (square : Id) (text : List ℕ)
    → IsNextOfFile bytes rule store generation square → after ≡ generation + 1 → generation + 1 < 2 ^ 64
    → IsTextWith MAX_LEVEL (IsSame (square_universe (Life rule) after (content store square))) text → IsStepped bytes text
stepped-by-rows bytes rule store generation after square text next later small h =
    let u = next.universe in
    let t : Tree = content store square in
    let at = next.generation_is in
    let stays : ¬ LeavesByRule MAX_LEVEL rule u = λ l. l.3 (sym (next.cells l.0 l.1) ∙ blank-outside t (omega (arith, next.level)) l.0 l.1 l.2) in
    let not_last : u.generation ≢ 2 ^ 64 - 1 = λ e. omega (arith, e, at, small) in
    let refusal : LifeRefusal MAX_LEVEL u None =
    subst (λ (r : Rule). RuleRefusal MAX_LEVEL r u None) (sym next.rule_is) (inr (not_last, inr (next.few, inr (stays, refl)))) in (
      u,
      next.reads,
      refusal,
      life-stepped rule u (Life rule) after t text next.rule_is (sym next.rule_is) (later ∙ ap (λ n. n + 1) (sym at)) next.cells h,
    )

-- ---- which squares are stored

-- the first lines of a file that are a file themselves
pub header-of : (bytes : List ℕ) (read : List (List ℕ)) (before rest : List (ℕ × List ℕ)) (file : Rle) (rule : Rule) → read ≡ texts before
    → before ++ rest ≡ numbered_from 1 (lines_of bytes) → IsRle MAX_LEVEL read file → rule ≡ file.rule → HasHeaderRule bytes rule
header-of bytes read before rest file rule consumed all is same =
    record {
      lines = read;
      after = texts rest;
      whole = sym (numbered_texts (lines_of bytes) 1) ∙ ap texts (sym all) ∙ map-append (λ (p : ℕ × List ℕ). p.1) before rest
          ∙ ap (λ (t : List (List ℕ)). t ++ texts rest) (sym consumed);
      file = file;
      is = is;
      rule_is = sym same;
    }

-- a square of the next generation of the runs up to a line
pub line-by_rows : (bytes : List ℕ) (old : List (List ℕ)) (before : List (ℕ × List ℕ)) (k : ℕ) (line : List ℕ) (rest : List (ℕ × List ℕ))
    (rule other : OuterTotalistic) → old ≡ texts before → before ++ (k, line) ∷ rest ≡ numbered_from 1 (lines_of bytes) → other ≡ rule
    → (P : Tree → Type 0) → SomeNextOfLines P other (old ++ line ∷ []) → SomeByRows P rule bytes
line-by_rows bytes old before k line rest rule other consumed all e P s =
    let whole : lines_of bytes ≡ (old ++ line ∷ []) ++ texts rest =
    sym (lines_around (lines_of bytes) before k line rest all) ∙ ap (λ (t : List (List ℕ)). t ++ line ∷ texts rest) (sym consumed)
    ∙ sym (append_assoc old (line ∷ []) (texts rest)) in
    of_first_lines (old ++ line ∷ []) (texts rest) whole (subst (λ (r : OuterTotalistic). SomeNextOfLines P r (old ++ line ∷ [])) e s)

-- a square of the next generation of all runs of a file
pub plane-by_rows : (bytes : List ℕ) (lines : List (List ℕ)) (file : Rle) (runs : List Run) (rule other : OuterTotalistic) → lines ≡ lines_of bytes
    → IsRle MAX_LEVEL lines file → HasRuns MAX_LEVEL lines runs → file.rule ≡ Life rule → other ≡ rule → (P : Tree → Type 0)
    → SomeNextAbove P (2 ^ MAX_LEVEL) other (state_by runs) → SomeByRows P rule bytes
plane-by_rows bytes lines file runs rule other all is are same e P s =
    let u : Universe = rle_universe file in
    let states : (x y : ℤ) → state_by runs x y ≡ u.cell x y = file-cells lines runs file are is in
    of_next_plane u (subst (λ (ls : List (List ℕ)). Says MAX_LEVEL ls u) all (as_rle file is)) same
    (SomeSquare-within (omega arith)
    (λ i j li lj. (λ k. by_columns (next_life (e k) (state_by runs)) i j)
    ∙ same-next rule (state_by runs) u.cell states (pos i -ℤ pos half_plane) (pos j -ℤ pos half_plane)) s)

-- the square to which the plane of the next generation is trimmed
pub trimmed-by_rows : (bytes : List ℕ) (life : OuterTotalistic) (store : Nodes) (generation : ℕ) (square : Id) (rule : Rule) → rule ≡ Life life
    → IsNextOfFile bytes life store generation square → (P : Tree → Type 0) → TrimmedTo P (content store square) (least_level rule)
    → SomeByRows P life bytes
trimmed-by_rows bytes life store generation square rule is next P smaller =
    of_trimmed_plane next.universe next.reads next.rule_is
    (record {
      square = content store square;
      full = (known_squares_are_full store square next.known.0).0;
      is = next.level;
      cells = next.cells;
      smaller = subst (λ (q : Rule). TrimmedTo P (content store square) (least_level q)) is smaller;
    })
