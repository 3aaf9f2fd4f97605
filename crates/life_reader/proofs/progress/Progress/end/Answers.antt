use Rattle.std.proofs.Common.{◌≡◌, ◌⊎◌, ℕ, suc, true, false, ◌+◌, ◌≤◌, max, List, ◌++◌, map, ℤ, refl, inl, inr, sym, ap, ◌∙◌, subst, All}
use Rattle.std.specs.Global.{Vec}
use Rattle.std.proofs.lemmas.Result.{IfOk-weaker}
use Rattle.life_base.specs.Lines.{LinesRead}
use Rattle.life_base.specs.Text.{lines_of}
use Rattle.life_base.specs.Tree.{Tree, depth, tree_cell}
use Rattle.life_base.specs.declared.cell.Run.{Run}
use Rattle.life_base.specs.declared.cell.TheConstants.{MAX_LEVEL}
use Rattle.life_base.specs.declared.kind.Kind.{Kind}
use Rattle.life_mc.specs.Cells.{root_level}
use Rattle.life_mc.specs.Macrocell.{Macrocell, IsValidMacrocell}
use Rattle.life_mc.specs.Grammar.{IsPlainMacrocell}
use Rattle.life_mc.specs.Reading.{AreMacrocell, squares_of}
use Rattle.life_mc.proofs.Accepted.{lines_are_valid}
use Rattle.life_mc.proofs.Grammars.{grammars_agree}
use Rattle.life_mc.specs.declared.line.Line.{Line}
use Rattle.life_quad.specs.declared.id.Id.{Id}
use Rattle.life_quad.specs.declared.moves.Quarters.{Quarters}
use Rattle.life_quad.specs.Moves.{quads_of}
use Rattle.life_quad.specs.Refused.{SomeOf}
use Rattle.life_quad.specs.Store.{Nodes}
use Rattle.life_quad.proofs.KeepingLemmas.{keeps-then, adds-as, adds-then}
use Rattle.life_rle.specs.Grammar.{IsRle}
use Rattle.life_rle.specs.Pattern.{Rle}
use Rattle.life_strip.specs.Filling.{Building}
use Rattle.life_strip.specs.Given.{state_by}
use Rattle.life_strip.specs.Middle.{IsSouthLevel, SomeAboutMiddle}
use Rattle.life_pattern.specs.Files.{Says, as_rle, as_macrocell, is_macrocell}
use Rattle.life_reader.specs.Filling.{AreSquaresOf}
use Rattle.life_reader.specs.Needs.{SomeRoot, SomeAtEnd, SomeOfLines, SomeOfMacrocell, grown_times, of_plane, of_root, level_of_root}
use Rattle.life_pattern.specs.Store.{IsKnown, content}
use Rattle.life_reader.specs.Taking.{IsEnd, IsOpen, StandsFor, consumed_lines}
use Rattle.life_reader.specs.Waiting.{KeepsLines}
use Rattle.life_pattern.specs.Universe.{least_level, rle_universe, macrocell_universe}
use Rattle.life_reader.specs.declared.progress.Progress.{Progress}
use Rattle.life_reader.specs.declared.progress.Progress.TheVariants as progress
use Rattle.life_reader.proofs.PatternFacts.{undecided-lacks, end-kind, file-cells}
use Rattle.life_reader.proofs.PrefixFacts.{end-lines, end-says, top-level, macrocell-level}
use Rattle.life_reader.proofs.Holding.{macrocell-holds, ok-both, rle-holds}
use Rattle.life_reader.proofs.Middles.{ends-with-cell, root-lower, same-about}
use Rattle.life_reader.proofs.Standing.{squares-stay}
use Rattle.life_reader.proofs.WaitingFacts.{kept-joined, kept-squares, waiting-some}
use Rattle.life_reader.proofs.progress.Progress.end.Goals as goal
use Rattle.life_reader.proofs.progress.Progress.end.Goals.{After-deref}
use Rattle.life_base.proofs.Results.{error_is, err_again}

-- what the end of an RLE file with these runs gives
record RleEnd (p : Progress) (runs : List Run) (file : Rle) : Type 1 where
  says : Says MAX_LEVEL (consumed_lines p) (rle_universe file)
  format : is_macrocell (consumed_lines p) ≡ false
  cells : (x y : ℤ) → state_by runs x y ≡ (rle_universe file).cell x y
  plane : (P : Tree → Type 0) → SomeAboutMiddle P (state_by runs) → SomeAtEnd MAX_LEVEL P (consumed_lines p)
  root : {level : ℕ} → 3 ≤ level → level ≤ MAX_LEVEL → (P : Tree → Type 0) → SomeRoot MAX_LEVEL P (rle_universe file) level
      → SomeAtEnd MAX_LEVEL P (consumed_lines p)

rle-end : (store : Nodes) {p : Progress} {reader : LinesRead} {builder : Building} {runs : Vec Run} → p ≡ progress.Rle reader builder runs → IsOpen p
    → StandsFor (IsKnown store) (content store) p → (file : Rle) → IsRle MAX_LEVEL reader.lines file → RleEnd p builder.runs file
rle-end store {p} {reader} {builder} is begun stands file are =
    let u = rle_universe file in
    let whole : Says MAX_LEVEL (consumed_lines p) u = subst (λ (ls : List (List ℕ)). Says MAX_LEVEL ls u) (sym (ap consumed_lines is)) (as_rle file are) in
    let format = ap is_macrocell (ap consumed_lines is) ∙ (subst IsOpen is begun).format in
    let same = file-cells reader.lines builder.runs file (subst (StandsFor (IsKnown store) (content store)) is stands).are are in
    record {
      says = whole;
      format = format;
      cells = same;
      plane = λ P s. of_plane u whole format (same-about (state_by builder.runs) u.cell same s);
      root = λ low high P s. of_root u whole (subst (SomeRoot MAX_LEVEL P u) (sym (top-level (consumed_lines p) format)) (root-lower P u _ low high s));
    }

-- what the end of a macrocell file gives whose squares these Ids name
record MacrocellEnd (store : Nodes) (p : Progress) (ids : List Id) (file : Macrocell) : Type 1 where
  valid : IsValidMacrocell MAX_LEVEL file
  there : AreSquaresOf (IsKnown store) (content store) file.lines ids
  says : Says MAX_LEVEL (consumed_lines p) (macrocell_universe file)
  ends : (bytes : List ℕ) (ended : ℕ) → IsEnd bytes ended p → (is_macrocell (lines_of bytes) ≡ true) × AreMacrocell MAX_LEVEL (lines_of bytes) file
  last : {level : ℕ} → level ≡ max 1 (root_level file.lines) → (bytes : List ℕ) (ended : ℕ) → IsEnd bytes ended p
      → level ≡ level_of_root MAX_LEVEL (lines_of bytes)
  root : {level : ℕ} → level ≡ max 1 (root_level file.lines) → (P : Tree → Type 0) → SomeRoot MAX_LEVEL P (macrocell_universe file) level
      → SomeAtEnd MAX_LEVEL P (consumed_lines p)

macrocell-end : (store : Nodes) {p : Progress} {reader : LinesRead} {ids : Vec Id} {waiting : Vec Quarters} {here : List Id}
    → p ≡ progress.Macrocell reader ids waiting → IsOpen p → AreSquaresOf (IsKnown store) (content store) (squares_of reader.lines) here → (file : Macrocell)
    → IsPlainMacrocell MAX_LEVEL reader.lines file
    → MacrocellEnd store p here file
macrocell-end store {p} {reader} {ids} {waiting} {here} is begun squares file found =
    let u = macrocell_universe file in
    let are = (grammars_agree MAX_LEVEL reader.lines file).0 found in
    let whole : Says MAX_LEVEL (consumed_lines p) u =
    subst (λ (ls : List (List ℕ)). Says MAX_LEVEL ls u) (sym (ap consumed_lines is)) (as_macrocell file are) in
    let level = ap (λ (ls : List Line). max 1 (root_level ls)) are.squares
    ∙ sym (ap (level_of_root MAX_LEVEL) (ap consumed_lines is) ∙ macrocell-level reader.lines (subst IsOpen is begun).format) in
    record {
      valid = lines_are_valid MAX_LEVEL reader.lines file are;
      there = rw are.squares squares;
      says = whole;
      ends = λ bytes ended e.
          let same = lines bytes ended (subst (IsEnd bytes ended) is e) in
          (ap is_macrocell same ∙ (subst IsOpen is begun).format, subst (λ (ls : List (List ℕ)). AreMacrocell MAX_LEVEL ls file) (sym same) are);
      last = λ e bytes ended end.
          e ∙ level ∙ ap (level_of_root MAX_LEVEL) (ap consumed_lines is ∙ sym (lines bytes ended (subst (IsEnd bytes ended) is end)));
      root = λ e P s. of_root u whole (subst (SomeRoot MAX_LEVEL P u) (e ∙ level) s);
    }
  where
    lines : (bytes : List ℕ) (ended : ℕ) → IsEnd bytes ended (progress.Macrocell reader ids waiting) → lines_of bytes ≡ reader.lines
    lines bytes ended e = (e.going (λ v. v)).0

-- the squares of the lines that waited are joined
joined-squares : (old new : Nodes) (lines : List (List ℕ)) {ids all here : List Id} {waiting : List Quarters}
    → KeepsLines (IsKnown old) (content old) lines ids waiting
    → ((id : Id) → IsKnown old id → IsKnown new id × (content new id ≡ content old id)) → (joined : List Id) → all ≡ ids ++ joined → All (IsKnown new) joined
    → map (content new) joined ≡ quads_of (content old) waiting → here ≡ all → AreSquaresOf (IsKnown new) (content new) (squares_of lines) here
joined-squares old new lines {ids} {waiting = waiting} kept keeps joined are known squares e =
    subst (AreSquaresOf (IsKnown new) (content new) (squares_of lines)) (sym (e ∙ are))
    (kept-squares (squares_of lines) (ids ++ joined) (kept-joined (squares_of lines) ids joined waiting keeps kept.kept known squares))

-- and a square of theirs is one of the file
waited-some : (store : Nodes) {p : Progress} {reader : LinesRead} {ids : Vec Id} {waiting : Vec Quarters} → p ≡ progress.Macrocell reader ids waiting → IsOpen p
    → StandsFor (IsKnown store) (content store) p → (P : Tree → Type 0) → SomeOf P (quads_of (content store) waiting.items)
    → SomeAtEnd MAX_LEVEL P (consumed_lines p) ⊎ SomeOfMacrocell MAX_LEVEL P (consumed_lines p)
waited-some store {p} {reader} {ids} {waiting} is begun stands P s = inr (
  ap is_macrocell (ap consumed_lines is) ∙ (subst IsOpen is begun).format,
  subst (SomeOfLines MAX_LEVEL P) (sym (ap consumed_lines is))
      (waiting-some reader.lines ids.items waiting.items (subst (StandsFor (IsKnown store) (content store)) is stands) P s),
)

-- the squares that are grown from a square of the store
abbrev HasGrownIn : Nodes → Tree → ℕ → Type 0
HasGrownIn store t level = (more : ℕ) → depth t + suc more ≤ level → (id : Id) × IsKnown store id × (content store id ≡ grown_times (suc more) t)

grown-again : (store : Nodes) (root : Id) (was : Tree) (level : ℕ) → content store root ≡ was → HasGrownIn store was level
    → HasGrownIn store (content store root) level
grown-again store root was level same has = subst (λ (t : Tree). HasGrownIn store t level) (sym same) has

pub returns-in-Undecided-clause-fault : goal.returns-in-Undecided-clause-fault
returns-in-Undecided-clause-fault c = let u = undecided-lacks c.args.self c.in-Undecided.is in inr (refl, u.0, u.1)

pub returns-in_err-rule-in-Rle-clause-fault : goal.returns-in_err-rule-in-Rle-clause-fault
returns-in_err-rule-in-Rle-clause-fault c =
    let kind : Kind = c.in_err-rule-in-Rle.field-0.0 in
    let begun = subst IsOpen c.in-Rle.is c.requires.begun in
    let e = c.in_err-rule-in-Rle.ensures in
    rw (error_is c.from_residual.result c.from_residual.ensures.1) (inr (end-kind c.args.self c.in-Rle.lines.lines c.in-Rle.lines.refused kind
    (ap consumed_lines c.in-Rle.is) begun.format begun.unrefused e.only
    (λ n. (e.missing begun.unrefused).0 (cc)) (λ s. e.spent.0 (cc))))

pub finish_about_middle-requires-clause-cell : goal.finish_about_middle-requires-clause-cell
finish_about_middle-requires-clause-cell g =
    let c = g in
    let built = subst (StandsFor (IsKnown c.args.store.now) (content c.args.store.now)) c.in-Rle.is c.requires.stands in
    ends-with-cell c.in-Rle.lines.lines c.in-Rle.builder.runs built.are built.filling.order

pub returns-in-Rle-clause-pattern : goal.returns-in-Rle-clause-pattern
returns-in-Rle-clause-pattern c =
    let found = c.in_ok-rule-in-Rle.ensures.file in
    let ended = rle-end c.args.store.now c.in-Rle.is c.requires.begun c.requires.stands found.0 found.1 in
    IfOk-weaker c.trimmed_pattern.result _ _ (λ pattern h. (rle_universe found.0, ended.says, h))
    (c.trimmed_pattern.ensures.pattern _ (sym found.2) (sym found.3) (λ x y. c.in_ok-root-in-Rle.ensures.cells x y ∙ ended.cells x y))

-- the end of a macrocell file, whose squares are joined
ended : (c : After-deref) → MacrocellEnd c.join_waiting.new.squares c.args.self c.deref.result.now c.in_ok-rule-in-Macrocell.ensures.file.0
ended c =
    let found = c.in_ok-rule-in-Macrocell.ensures.file in
    let join = c.in_ok-join_waiting-in-Macrocell.ensures in
    let there = joined-squares c.args.store.now c.join_waiting.new.squares c.in-Macrocell.lines.lines
    (subst (StandsFor (IsKnown c.args.store.now) (content c.args.store.now)) c.in-Macrocell.is c.requires.stands) join.grows.keeps.contents join.joined.joined
    join.joined.are join.joined.known join.joined.squares c.deref.ensures.value in
    macrocell-end c.join_waiting.new.squares c.in-Macrocell.is c.requires.begun there found.0 found.1

pub last_square-root-requires : goal.last_square-root-requires
last_square-root-requires c =
    let found = c.in_ok-rule-in-Macrocell.ensures.file in
    let ended = ended (goal.at.last_square-root-requires c).After-deref in
    (found.0, ended.valid, ended.there)

pub returns-clause-pattern : goal.returns-clause-pattern
returns-clause-pattern c =
    let found = c.in_ok-rule-in-Macrocell.ensures.file in
    let ended = ended (goal.at.returns-clause-pattern c).After-deref in
    IfOk-weaker c.trimmed_pattern-in-Macrocell.result _ _ (λ pattern h. (macrocell_universe found.0, ended.says, h))
    (c.trimmed_pattern-in-Macrocell.ensures.pattern _ (sym found.2) (sym found.3) (c.last_square-root.ensures.cells found.0 ended.valid ended.there))

pub returns-in_err-root-in-Rle-clause-stores : goal.returns-in_err-root-in-Rle-clause-stores
returns-in_err-root-in-Rle-clause-stores c =
    let found = c.in_ok-rule-in-Rle.ensures.file in
    let ended = rle-end c.args.store.now c.in-Rle.is c.requires.begun c.requires.stands found.0 found.1 in
    let grows = c.in_err-root-in-Rle.ensures.grows in
    rw (error_is c.from_residual-in_err-root-in-Rle.result c.from_residual-in_err-root-in-Rle.ensures.1) (record {
      needed = λ e. inl (ended.plane _ (grows.needed (err_again e)));
      adds = adds-as _ grows.adds (λ P s. inl (ended.plane P s));
      keeps = grows.keeps;
    })

pub returns-in-Rle-clause-stores : goal.returns-in-Rle-clause-stores
returns-in-Rle-clause-stores c =
    let found = c.in_ok-rule-in-Rle.ensures.file in
    let ended = rle-end c.args.store.now c.in-Rle.is c.requires.begun c.requires.stands found.0 found.1 in
    let filled = c.in_ok-root-in-Rle.ensures in
    let trims = c.trimmed_pattern.ensures.grows in
    let cells = λ (x y : ℤ). filled.cells x y ∙ ended.cells x y in
    record {
      needed = λ e. inl (ended.root filled.level.low filled.level.high _ (trims.needed e _ (sym found.2) cells));
      adds = adds-then _ filled.grows.adds trims.adds (λ P s. inl (ended.plane P s))
          (λ P s. inl (ended.root filled.level.low filled.level.high P (s _ (sym found.2) cells)));
      keeps = keeps-then filled.grows.keeps trims.keeps;
    }

pub returns-clause-stores : goal.returns-clause-stores
returns-clause-stores c =
    let found = c.in_ok-rule-in-Macrocell.ensures.file in
    let join = c.in_ok-join_waiting-in-Macrocell.ensures in
    let ended = ended (goal.at.returns-clause-stores c).After-deref in
    let last = c.last_square-root.ensures in
    let level = last.level found.0 ended.valid ended.there in
    let trims = c.trimmed_pattern-in-Macrocell.ensures.grows in
    record {
      needed = λ e. inl (ended.root level _ (trims.needed e _ (sym found.2) (last.cells found.0 ended.valid ended.there)));
      adds = adds-then _ join.grows.adds trims.adds (waited-some c.args.store.now c.in-Macrocell.is c.requires.begun c.requires.stands)
          (λ P s. inl (ended.root level P (s _ (sym found.2) (last.cells found.0 ended.valid ended.there))));
      keeps = keeps-then join.grows.keeps trims.keeps;
    }

pub returns-in_err-join_waiting-in-Macrocell-clause-stores : goal.returns-in_err-join_waiting-in-Macrocell-clause-stores
returns-in_err-join_waiting-in-Macrocell-clause-stores c =
    let grows = c.in_err-join_waiting-in-Macrocell.ensures.grows in
    let some = waited-some c.args.store.now c.in-Macrocell.is c.requires.begun c.requires.stands in
    rw (error_is c.from_residual-in_err-join_waiting-in-Macrocell.result c.from_residual-in_err-join_waiting-in-Macrocell.ensures.1)
    (record { needed = λ e. some _ (grows.needed (err_again e)); adds = adds-as _ grows.adds some; keeps = grows.keeps })

pub returns-in-Rle-clause-all : goal.returns-in-Rle-clause-all
returns-in-Rle-clause-all c =
    let found = c.in_ok-rule-in-Rle.ensures.file in
    let ended = rle-end c.args.store.now c.in-Rle.is c.requires.begun c.requires.stands found.0 found.1 in
    let u = rle_universe found.0 in
    let filled = c.in_ok-root-in-Rle.ensures in
    let cells = λ (x y : ℤ). filled.cells x y ∙ ended.cells x y in
    let store = c.trimmed_pattern.new.squares in
    let plane = c.in_ok-root-in-Rle.root in
    let kept = c.trimmed_pattern.ensures.grows.keeps.contents plane filled.known in
    ok-both c.trimmed_pattern.result (c.trimmed_pattern.ensures.pattern u (sym found.2) (sym found.3) cells) c.trimmed_pattern.ensures.grown
    (λ pattern is grown bytes count end.
    let more = end-lines bytes count c.args.self u end ended.says in
    rle-holds store bytes u pattern plane (ap is_macrocell more.1 ∙ more.2 ∙ ended.format) (end-says bytes count c.args.self u end ended.says) is kept.0
    (subst (λ (f : ℤ → ℤ → ℕ). IsSouthLevel (depth (content store plane)) f) (λ i x y. ended.cells x y i)
    (subst (λ (n : ℕ). IsSouthLevel n (state_by c.in-Rle.builder.runs)) (sym (ap depth kept.1)) filled.level))
    (λ x y. ap (λ (t : Tree). tree_cell t x y) kept.1 ∙ cells x y))

pub returns-clause-all : goal.returns-clause-all
returns-clause-all c =
    let found = c.in_ok-rule-in-Macrocell.ensures.file in
    let file = found.0 in
    let ended = ended (goal.at.returns-clause-all c).After-deref in
    let last = c.last_square-root.ensures in
    let store = c.trimmed_pattern-in-Macrocell.new.squares in
    let root = c.last_square-root.result in
    let keeps = c.trimmed_pattern-in-Macrocell.ensures.grows.keeps.contents in
    let kept = keeps root last.known in
    let cells = last.cells file ended.valid ended.there in
    ok-both c.trimmed_pattern-in-Macrocell.result (c.trimmed_pattern-in-Macrocell.ensures.pattern _ (sym found.2) (sym found.3) cells)
    c.trimmed_pattern-in-Macrocell.ensures.grown
    (λ pattern is grown bytes count end.
    let whole = ended.ends bytes count end in
    macrocell-holds store bytes file c.deref.result.now pattern root whole.0 whole.1 (squares-stay file.lines c.deref.result.now keeps ended.there) is kept.0
    (subst (λ (t : Tree). 1 ≤ depth t) (sym kept.1) last.high)
    (ap depth kept.1 ∙ ended.last (last.level file ended.valid ended.there) bytes count end)
    (λ x y. ap (λ (t : Tree). tree_cell t x y) kept.1 ∙ cells x y)
    (grown-again store root _ (least_level file.rule) kept.1
    (subst (HasGrownIn store (content c.join_waiting.new.squares root)) (ap least_level found.2) grown)))
