use Rattle.std.proofs.Common.{◌≡◌, ℕ, suc, ◌+◌, ◌-◌, ◌*◌, ◌^◌, ◌<◌, ◌≤◌, ◌++◌, ◌∷◌, [], List, All, refl, sym, ◌∙◌, ap, subst, arith}
use Rattle.std.proofs.Math.Pow.{pow_mono}
use Rattle.std.proofs.lemmas.List.{nil_from_length}
use Rattle.life_base.proofs.Basics.{twice}
use Rattle.life_base.specs.Tree.{Tree}
use Rattle.life_quad.specs.declared.id.Id.{Id}
use Rattle.life_quad.proofs.KeepingLemmas.{keeps-then, keeps-same, adds-none, adds-then}
use Rattle.life_quad.proofs.GrowsLemmas.{grows-behind, grows-err, grows-still}
use Rattle.life_strip.specs.declared.pile.Pile.{Pile}
use Rattle.life_strip.specs.declared.row.Row.{Row}
use Rattle.life_strip.specs.declared.spans.Strip.{Strip}
use Rattle.life_strip.specs.Needed.{SomeSquare}
use Rattle.life_strip.specs.Picture.{picture, height, AreFalling, IsLowest, IsSoundStrip}
use Rattle.life_strip.specs.Pile.{pile_height, pile_state, pile_state_with}
use Rattle.life_strip.specs.Row.{state_with_rows}
use Rattle.life_strip.proofs.NeededLemmas.{SomeSquare-same}
use Rattle.life_strip.proofs.PictureLemmas.{all_init, all_last, falling-init, height-push, lowest-init, picture-blank, positive_power}
use Rattle.life_strip.proofs.BandPictures.{four-divides, lowest-more, pile-alone}
use Rattle.life_strip.proofs.RowLemmas.{with-blank, with-none}
use Rattle.life_strip.proofs.pile.Pile.skip_rows.Goals as goal

-- a blank strip that is put below strips without rows changes no cell
skipped : (content new : Id → Tree) (xs zs : List Strip) (ys : List Row) (s : Strip) → ys ≡ [] → s.spans.items ≡ []
    → ((i j : ℕ) → picture new zs i j ≡ picture content (xs ++ s ∷ []) i j)
    → (i j : ℕ) → state_with_rows new zs ys i j ≡ state_with_rows content xs ys i j
skipped content new xs zs ys s none blank cells i j =
    ap (λ y. state_with_rows new zs y i j) none ∙ with-none new zs i j ∙ cells i j ∙ picture-blank content xs s blank i j
    ∙ sym (with-none content xs i j) ∙ ap (λ y. state_with_rows content xs y i j) (sym none)

-- a square of some rows and of a blank strip below them is one of all rows
of-all : (now : Id → Tree) (state : ℕ → ℕ → ℕ) (xs : List Strip) (s : Strip) (rows most : ℕ) → s.spans.items ≡ [] → rows ≤ most
    → ((i j : ℕ) → picture now xs i j ≡ state i j) → (P : Tree → Type 0) → SomeSquare P rows (picture now (xs ++ s ∷ []))
    → SomeSquare P most state
of-all now state xs s rows most blank le same P n = SomeSquare-same le (λ i j. picture-blank now xs s blank i j ∙ same i j) n

-- and so is one of some rows and of a row without cells below them
of-row : (now : Id → Tree) (state : ℕ → ℕ → ℕ) (pile : Pile) (row : Row) (rows most : ℕ) → row.blocks.items ≡ [] → row.spans.items ≡ [] → rows ≤ most
    → ((i j : ℕ) → pile_state now pile i j ≡ state i j) → (P : Tree → Type 0) → SomeSquare P rows (pile_state_with now pile row) → SomeSquare P most state
of-row now state pile row rows most blocks spans le same P n =
    SomeSquare-same le (λ i j. with-blank now pile.strips.items pile.band.items row blocks spans i j ∙ same i j) n

-- the cells of strips below which no rows are
alone : (now : Id → Tree) (state : ℕ → ℕ → ℕ) (xs : List Strip) (ys : List Row) → ys ≡ [] → ((i j : ℕ) → state_with_rows now xs ys i j ≡ state i j)
    → (i j : ℕ) → picture now xs i j ≡ state i j
alone now state xs ys none same i j = sym (with-none now xs i j) ∙ ap (λ y. state_with_rows now xs y i j) (sym none) ∙ same i j

-- the same strips by another name
same-cells : (now : Id → Tree) (state : ℕ → ℕ → ℕ) (ws xs : List Strip) → ws ≡ xs → ((i j : ℕ) → picture now xs i j ≡ state i j) → (i j : ℕ)
    → picture now ws i j ≡ state i j
same-cells now state ws xs e same i j = ap (λ z. picture now z i j) e ∙ same i j

pub loop-rest-init : goal.loop-rest-init
loop-rest-init g c =
    let store = c.args.squares.now in
    record { pile = c.requires.pile; rows = refl; cells = λ i j. refl; keeps = keeps-same store; adds = adds-none _ store }

pub returns-clause-grows : goal.returns-clause-grows
returns-clause-grows g c = let inv = c.loop-rest.invariant in grows-still _ inv.keeps inv.adds tt

pub returns-in_err-push_row-clause-grows : goal.returns-in_err-push_row-clause-grows
returns-in_err-push_row-clause-grows g c =
    let C = g.S.Squares.content in
    let inv = c.loop-rest.invariant in
    let pile = c.args.self.now in
    let M = λ (P : Tree → Type 0). SomeSquare P (pile_height pile + c.args.count) (pile_state (C c.args.squares.now) pile) in
    grows-err M (grows-behind M inv.keeps inv.adds c.in_err-push_row.ensures.grows
    (of-row (C c.loop-rest.squares) (pile_state (C c.args.squares.now) pile) c.loop-rest.self c.new.result _
    (pile_height pile + c.args.count) c.new.ensures.blocks c.new.ensures.spans (omega (arith, inv.rows, c.loop-rest-test.true)) inv.cells))
    c.from_residual.ensures.1 (λ P n. n)

pub loop-rest-preserved-then-rest-lt4 : goal.loop-rest-preserved-then-rest-lt4
loop-rest-preserved-then-rest-lt4 g c =
    let C = g.S.Squares.content in
    let inv = c.loop-rest.invariant in
    let row = c.in_ok-push_row.ensures in
    let pile = c.args.self.now in
    let now = c.loop-rest.self in
    let new = c.new.ensures in
    record {
      pile = row.pile;
      rows = omega (arith, row.height, inv.rows, c.loop-rest-test.true);
      cells = λ i j. row.picture i j
          ∙ with-blank (C c.loop-rest.squares) now.strips.items now.band.items c.new.result new.blocks new.spans i j ∙ inv.cells i j;
      keeps = keeps-then inv.keeps row.grows.keeps;
      adds = adds-then _ inv.adds row.grows.adds (λ P n. n)
          (of-row (C c.loop-rest.squares) (pile_state (C c.args.squares.now) pile) now c.new.result _ (pile_height pile + c.args.count)
          new.blocks new.spans (omega (arith, inv.rows, c.loop-rest-test.true)) inv.cells);
    }

pub returns-in_err-push_strip-clause-grows : goal.returns-in_err-push_strip-clause-grows
returns-in_err-push_strip-clause-grows g c =
    let C = g.S.Squares.content in
    let inv = c.loop-rest.invariant in
    let pile = c.args.self.now in
    let state = pile_state (C c.args.squares.now) pile in
    let xs = c.loop-rest.self.strips.items in
    let kept = c.in_default.ensures.0 in
    let ys = c.loop-rest.self.band.items in
    let empty = nil_from_length ys (grind (arith, c.is_empty.ensures, c.if-not-is_empty.false)) in
    let M = λ (P : Tree → Type 0). SomeSquare P (pile_height pile + c.args.count) (pile_state (C c.args.squares.now) pile) in
    let low = ap height kept in
    grows-err M (grows-behind M inv.keeps inv.adds c.in_err-push_strip.ensures.grows
    (of-all (C c.loop-rest.squares) state c.take_last.new.strips.items
    (record { level = c.blank_level-level.result; spans = c.new-in-loop-rest.result }) _
    (pile_height pile + c.args.count) c.new-in-loop-rest.ensures.items (omega (arith, low, inv.rows, c.blank_level-level.ensures.fits))
    (same-cells (C c.loop-rest.squares) state _ xs kept (alone (C c.loop-rest.squares) state xs ys empty inv.cells))))
    c.from_residual-in_err-push_strip.ensures.1 (λ P n. n)

pub loop-rest-preserved : goal.loop-rest-preserved
loop-rest-preserved g c =
    let K = g.S.Squares.knows in
    let C = g.S.Squares.content in
    let now = c.loop-rest.squares in
    let new = c.push_strip.new.squares in
    let inv = c.loop-rest.invariant in
    let pile = c.loop-rest.self in
    let state = pile_state (C c.args.squares.now) c.args.self.now in
    let xs = pile.strips.items in
    let ys = pile.band.items in
    let zs = c.push_strip.new.strips.items in
    let kept = c.in_default.ensures.0 in
    let low = ap height kept in
    let empty = nil_from_length ys (grind (arith, c.is_empty.ensures, c.if-not-is_empty.false)) in
    let level = c.blank_level-level.result in
    let s : Strip = record { level = level; spans = c.new-in-loop-rest.result } in
    let blank = c.new-in-loop-rest.ensures.items in
    let deep = c.blank_level-level.ensures.largest 2 (subst (IsLowest 2) (sym c.as_slice.ensures.value) inv.pile.lowest) (omega arith)
    (omega (arith, c.if-rest-lt4.false)) in
    let r = c.in_ok-push_strip.ensures in
    let taller : height zs ≡ height xs + 2 ^ level = omega (arith, r.height, low) in
    record {
      pile = pile-alone (K new) (C new) (record pile { spare = c.push_strip.new.spare; strips = c.push_strip.new.strips }) empty r.strips
          (lowest-more xs zs (2 ^ level) (2 ^ (level - 2)) inv.pile.lowest r.strips.falling taller (four-divides level deep));
      rows = omega (arith, taller, inv.rows, c.blank_level-level.ensures.fits);
      cells = λ i j. skipped (C now) (C new) xs zs ys s empty blank
          (λ a b. r.picture a b ∙ ap (λ (z : List Strip). picture (C now) (z ++ s ∷ []) a b) kept) i j ∙ inv.cells i j;
      keeps = keeps-then inv.keeps r.grows.keeps;
      adds = adds-then _ inv.adds r.grows.adds (λ P n. n)
          (of-all (C now) state c.take_last.new.strips.items s _ (pile_height c.args.self.now + c.args.count) blank
          (omega (arith, low, inv.rows, c.blank_level-level.ensures.fits))
          (same-cells (C now) state _ xs kept (alone (C now) state xs ys empty inv.cells)));
    }

-- ---- the last strip, which is taken and put back with blank rows below it

-- where strips of level 2 or more grew by so many rows
grown-by-fours : (level top n : ℕ) → 2 ≤ level → level < top → n + 2 ^ level ≡ 2 ^ top → n ≡ (2 ^ (top - 2) - 2 ^ (level - 2)) * 4
grown-by-fours level top n deep higher e =
    let low = four-divides level deep in
    let high = four-divides top (omega (arith, deep, higher)) in
    omega (arith, low, high, e)

some-rows : (level top n : ℕ) → level < top → n + 2 ^ level ≡ 2 ^ top → 0 < n
some-rows level top n higher e =
    let more = pow_mono {i = suc level} {j = top} (omega (arith, higher)) in
    let two = twice level in
    let some = positive_power level in
    omega (arith, more, two, some, e)

pub push_and_raise-requires : goal.push_and_raise-requires
push_and_raise-requires g c =
    let now = c.loop-rest.squares in
    let P = IsSoundStrip (g.S.Squares.knows now) (g.S.Squares.content now) in
    let inv = c.loop-rest.invariant in
    let xs = c.loop-rest.self.strips.items in
    let first = c.take_last.new.strips.items in
    let last = c.in-Some.last in
    let items = c.in-Some.ensures.0 in
    let same = c.in-Some.ensures.1 in
    let fall = subst AreFalling items inv.pile.strips.falling in
    let h : height xs ≡ height first + 2 ^ last.level = ap height items ∙ height-push first last in
    let side : 2 ^ last.level ≡ 2 ^ c.blank_level-level.result = ap (λ n. 2 ^ n) same in
    record {
      strips = record { sound = all_init P first last (subst (All P) items inv.pile.strips.sound); falling = falling-init first last fall };
      strip = all_last P first last (subst (All P) items inv.pile.strips.sound);
      lowest = lowest-init first last fall (suc last.level) refl;
      high = omega (arith, same, c.blank_level-level.ensures.most);
      fits = omega (arith, side, c.blank_level-level.ensures.fits);
      space = omega (arith, h, inv.rows, c.requires.space);
    }

pub loop-rest-smaller-in-Some : goal.loop-rest-smaller-in-Some
loop-rest-smaller-in-Some g c =
    let n = c.in_ok-rest.ensures.count in
    let some = some-rows c.in-Some.last.level n.0 c.in_ok-rest.field-0 n.1 n.2 in
    omega (arith, some, n.3)

pub returns-in_err-rest-clause-grows : goal.returns-in_err-rest-clause-grows
returns-in_err-rest-clause-grows g c =
    let C = g.S.Squares.content in
    let inv = c.loop-rest.invariant in
    let pile = c.args.self.now in
    let state = pile_state (C c.args.squares.now) pile in
    let xs = c.loop-rest.self.strips.items in
    let ys = c.loop-rest.self.band.items in
    let first = c.take_last.new.strips.items in
    let last = c.in-Some.last in
    let items = c.in-Some.ensures.0 in
    let empty = nil_from_length ys (grind (arith, c.is_empty.ensures, c.if-not-is_empty.false)) in
    let h : height xs ≡ height first + 2 ^ last.level = ap height items ∙ height-push first last in
    let M = λ (P : Tree → Type 0). SomeSquare P (pile_height pile + c.args.count) (pile_state (C c.args.squares.now) pile) in
    grows-err M (grows-behind M inv.keeps inv.adds c.in_err-rest.ensures.grows
    (λ P n. SomeSquare-same (omega (arith, h, inv.rows))
    (same-cells (C c.loop-rest.squares) state _ xs (sym items) (alone (C c.loop-rest.squares) state xs ys empty inv.cells)) n))
    c.from_residual-in_err-rest.ensures.1 (λ P n. n)

pub loop-rest-preserved-in-Some : goal.loop-rest-preserved-in-Some
loop-rest-preserved-in-Some g c =
    let K = g.S.Squares.knows in
    let C = g.S.Squares.content in
    let now = c.loop-rest.squares in
    let new = c.push_and_raise.new.squares in
    let inv = c.loop-rest.invariant in
    let pile = c.loop-rest.self in
    let state = pile_state (C c.args.squares.now) c.args.self.now in
    let xs = pile.strips.items in
    let ys = pile.band.items in
    let zs = c.push_and_raise.new.strips.items in
    let first = c.take_last.new.strips.items in
    let last = c.in-Some.last in
    let items = c.in-Some.ensures.0 in
    let empty = nil_from_length ys (grind (arith, c.is_empty.ensures, c.if-not-is_empty.false)) in
    let r = c.in_ok-rest.ensures in
    let n = c.in_ok-rest.field-0 in
    let count = r.count in
    let deep : 2 ≤ last.level = all_last (λ (s : Strip). 2 ≤ s.level) first last (subst (IsLowest 2) items inv.pile.lowest) in
    let h : height xs ≡ height first + 2 ^ last.level = ap height items ∙ height-push first last in
    let taller : height zs ≡ height xs + n = omega (arith, r.height, h) in
    let same = same-cells (C now) state _ xs (sym items) (alone (C now) state xs ys empty inv.cells) in
    record {
      pile = pile-alone (K new) (C new) (record pile { spare = c.push_and_raise.new.spare; strips = c.push_and_raise.new.strips }) empty r.strips
          (lowest-more xs zs n (2 ^ (count.0 - 2) - 2 ^ (last.level - 2)) inv.pile.lowest r.strips.falling taller
          (grown-by-fours last.level count.0 n deep count.1 count.2));
      rows = let few = count.3 in omega (arith, taller, inv.rows, few);
      cells = λ i j. ap (λ y. state_with_rows (C new) zs y i j) empty ∙ with-none (C new) zs i j ∙ r.picture i j ∙ same i j;
      keeps = keeps-then inv.keeps r.grows.keeps;
      adds = adds-then _ inv.adds r.grows.adds (λ P m. m) (λ P m. SomeSquare-same (omega (arith, h, inv.rows)) same m);
    }
