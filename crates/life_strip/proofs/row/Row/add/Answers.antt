use Rattle.std.proofs.Common.{◌≡◌, ℕ, ◌<◌, Bool, true, false, ◌&&◌, nat_lt, nat_le, if◌then◌else◌, [], Result, Ok, Err, OnOk, refl, sym, ◌∙◌, ap, arith}
use Rattle.std.proofs.lemmas.List.{nil_from_length}
use Rattle.life_base.specs.Tree.{Tree}
use Rattle.life_quad.specs.declared.id.Id.{Id}
use Rattle.life_strip.specs.declared.row.Row.{Row}
use Rattle.life_strip.specs.Row.{FillsRow, IsRow, IsRowBefore, row_state}
use Rattle.life_strip.proofs.BlockLemmas.{no-cell-from}
use Rattle.life_strip.proofs.RowLemmas.{fills-blocks, row-later, row-of-blocks}
use Rattle.life_strip.proofs.row.Row.add.Goals as goal

-- of columns in which a row has no cell
nothing : (knows : Id → Type 0) (content : Id → Tree) (row : Row) (start end state : ℕ) → IsRow knows content row → IsRowBefore start row → start < end
    → row.spans.items ≡ [] → state ≡ 0 → FillsRow knows content row row start end state
nothing knows content row start end state is before some none zero = record {
  row = is;
  before = row-later row start end (omega (arith, some)) before;
  states = λ c. by c (nat_le start c) refl (nat_lt c end);
}
  where
    by : (c : ℕ) (a : Bool) → nat_le start c ≡ a → (b : Bool) → row_state content row c ≡ (if nat_le start c && b then state else row_state content row c)
    by c true e true =
        row-of-blocks content row c none ∙ no-cell-from row.blocks.items start c before.blocks (grind (arith, e)) ∙ sym zero
        ∙ ap (λ a. if a && true then state else row_state content row c) (sym e)
    by c true e false = ap (λ a. if a && false then state else row_state content row c) (sym e)
    by c false e b = ap (λ a. if a && b then state else row_state content row c) (sym e)

on_ok_map4 : {T E : Type 0} {P Q R S X : Type 0} (r : Result T E) → (P → Q → R → S → X) → OnOk r P → OnOk r Q → OnOk r R → OnOk r S → OnOk r X
on_ok_map4 (Ok x) f p q s t = f p q s t
on_ok_map4 (Err e) f p q s t = tt

pub returns-then-state-eq1-clause-fills : goal.returns-then-state-eq1-clause-fills
returns-then-state-eq1-clause-fills g c =
    let e = c.add_cells.ensures in
    on_ok_map4 c.add_cells.result
    (fills-blocks (g.S.Squares.knows c.args.squares.now) (g.S.Squares.content c.args.squares.now) c.args.self.now
    (record c.args.self.now { blocks = c.add_cells.new.blocks }) c.args.start c.args.end c.args.state c.requires.row
    (nil_from_length c.args.self.now.spans.items (grind (arith, c.is_empty.ensures, c.if-is_empty.true))) refl c.if-state-eq1.true)
    e.blocks e.before e.inside e.others

pub returns-then-state-eq0-clause-fills : goal.returns-then-state-eq0-clause-fills
returns-then-state-eq0-clause-fills g c =
    nothing (g.S.Squares.knows c.args.squares.now) (g.S.Squares.content c.args.squares.now) c.args.self.now c.args.start c.args.end c.args.state
    c.requires.row c.requires.before c.requires.some
    (nil_from_length c.args.self.now.spans.items (grind (arith, c.is_empty.ensures, c.if-is_empty.true))) c.if-state-eq0.true
