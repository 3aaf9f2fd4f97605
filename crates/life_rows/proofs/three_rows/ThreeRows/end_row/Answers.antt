use Rattle.std.proofs.Common.{◌≡◌, ℕ, suc, ◌==◌, ◌+◌, if◌then◌else◌, List, ◌∙◌, refl, subst}
use Rattle.life_base.specs.Sets.{OuterTotalistic}
use Rattle.life_rows.specs.RowCells.{AreInner, next_in_row}
use Rattle.life_quad.proofs.KeepingLemmas.{adds-as}
use Rattle.life_rows.proofs.NeededLemmas.{row-needed}
use Rattle.life_rows.proofs.ThreeRowsLemmas.{rows-end, rows-same}
use Rattle.life_strip.specs.Needed.{SomeSquare}
use Rattle.life_strip.specs.Plane.{state_so_far}
use Rattle.life_strip.specs.RowWords.{cell_in_words}
use Rattle.life_strip.specs.declared.row_builder.RowWord.{RowWord}
use Rattle.life_rows.proofs.three_rows.ThreeRows.end_row.Goals as goal

-- the words of a vector are those of its slice
next-as : (rule : OuterTotalistic) (next : List RowWord) {n north h here s south : List RowWord} → n ≡ north → h ≡ here → s ≡ south
    → ((west : ℕ) → cell_in_words next (suc west) ≡ next_in_row rule (cell_in_words n) (cell_in_words h) (cell_in_words s) west)
    → (west : ℕ) → cell_in_words next (suc west) ≡ next_in_row rule (cell_in_words north) (cell_in_words here) (cell_in_words south) west
next-as rule next a b c is west = is west ∙ (λ i. next_in_row rule (cell_in_words (a i)) (cell_in_words (b i)) (cell_in_words (c i)) west)

row-as : (row : ℕ) (old new : ℕ → ℕ → ℕ) {w words : List RowWord} → w ≡ words
    → ((i j : ℕ) → new i j ≡ (if j == row then cell_in_words w i else old i j)) → (i j : ℕ) → new i j ≡ (if j == row then cell_in_words words i else old i j)
row-as row old new e is i j = is i j ∙ (λ k. if j == row then cell_in_words (e k) i else old i j)

pub returns-clause-rows : goal.returns-clause-rows
returns-clause-rows g c is =
    let K = g.S.Squares.knows c.args.squares.now in
    let C = g.S.Squares.content c.args.squares.now in
    let K' = g.S.Squares.knows c.give_row.new.squares in
    let C' = g.S.Squares.content c.give_row.new.squares in
    let s = c.args.self.now in
    let e = c.shift.ensures in
    let words = c.in-Ok.ensures in
    let gives = c.if-not-give_row.ensures in
    rows-same K' C' e.rule e.builder e.north e.here e.south e.row e.left e.runs
    (rows-end K K' C C' s.rule s.builder c.give_row.new.builder s.north.items s.here.items s.south.items c.next_row.new.next.items s.north_row s.left
    s.log.runs c.requires.rows (subst AreInner c.deref.ensures.value (c.if-not-are_inner.ensures refl)) c.requires.inside words.edge
    (next-as s.rule c.next_row.new.next.items c.deref-2.ensures.value c.deref-3.ensures.value c.deref-4.ensures.value words.cells) (gives.filled refl)
    (row-as (s.north_row + 1) (state_so_far C s.builder) (state_so_far C' c.give_row.new.builder) c.deref-5.ensures.value (gives.cells refl)))

pub returns-clause-adds : goal.returns-clause-adds
returns-clause-adds g c =
    let C = g.S.Squares.content c.args.squares.now in
    let s = c.args.self.now in
    adds-as {A = λ P. SomeSquare P (s.north_row + 1) (state_so_far C s.builder)} _ c.give_row.ensures.adds
    (row-needed (g.S.Squares.knows c.args.squares.now) C s.rule s.builder s.north.items s.here.items s.south.items s.north_row s.left s.log.runs
    c.requires.rows c.requires.inside)

pub returns-then-not-give_row-clause-adds : goal.returns-then-not-give_row-clause-adds
returns-then-not-give_row-clause-adds g c =
    let C = g.S.Squares.content c.args.squares.now in
    let s = c.args.self.now in
    adds-as {A = λ P. SomeSquare P (s.north_row + 1) (state_so_far C s.builder)} _ c.give_row.ensures.adds
    (row-needed (g.S.Squares.knows c.args.squares.now) C s.rule s.builder s.north.items s.here.items s.south.items s.north_row s.left s.log.runs
    c.requires.rows c.requires.inside)
