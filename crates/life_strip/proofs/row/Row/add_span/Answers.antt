use Rattle.std.proofs.Common.{◌≡◌, ℕ, ◌≤◌, ◌<◌, ◌^◌, Bool, true, false, ◌&&◌, inl, nat_lt, nat_le, if◌then◌else◌, Some, [], refl, sym, ◌∙◌, ap, subst, arith}
use Rattle.std.proofs.lemmas.Result.{on_ok_weaker}
use Rattle.life_base.specs.declared.cell.TheConstants.{MAX_LEVEL}
use Rattle.life_base.specs.Tree.{Tree, depth, point, state_at}
use Rattle.life_quad.specs.declared.id.Id.{Id}
use Rattle.life_strip.specs.declared.row.Row.{Row}
use Rattle.life_strip.specs.Blocks.{AreRowBlocks, AreBlocksBefore}
use Rattle.life_strip.specs.Row.{FillsRow, IsRow, IsRowBefore, row_state}
use Rattle.life_strip.specs.Strip.{id_at, IsExtended, square_or_blank}
use Rattle.life_strip.proofs.RowLemmas.{row-later, row-of-spans}
use Rattle.life_strip.proofs.SpanLemmas.{before_more, extended-columns, row_strip}
use Rattle.life_strip.proofs.row.Row.add_span.Goals as goal

-- a row of spans with one more has its state in the span's columns, and elsewhere those of the row before
fills : (knows : Id → Type 0) (content : Id → Tree) (old mid new : Row) (start end state : ℕ) (id : Id) → start < end → end ≤ 2 ^ MAX_LEVEL
    → IsRow knows content mid → mid.blocks.items ≡ [] → new.blocks ≡ mid.blocks → IsRowBefore start mid
    → ((c : ℕ) → row_state content mid c ≡ row_state content old c) → knows id → content id ≡ point state
    → IsExtended mid.spans.items new.spans.items start end id → FillsRow knows content old new start end state
fills knows content old mid new start end state id some within is none same before kept known square more = record {
  row = record {
    blocks = subst (λ z. AreRowBlocks z.items) (sym same) is.blocks;
    squares = row_strip knows content mid.spans.items new.spans.items start end id is.squares known (ap depth square) columns;
    within = before_more end (2 ^ MAX_LEVEL) new.spans.items more.before within;
    rises = more.rises is.rises;
    one = inl empty;
  };
  before = record {
    blocks = subst (λ z. AreBlocksBefore end z.items) (sym same)
        (row-later mid start end (omega (arith, some)) before).blocks;
    spans = more.before;
  };
  states = λ c. row-of-spans content new c empty ∙ ap (λ o. state_at (square_or_blank content 0 o) 0 0) (columns c) ∙ by c (nat_le start c && nat_lt c end);
}
  where
    empty : new.blocks.items ≡ []
    empty = ap (λ z. z.items) same ∙ none

    columns : (c : ℕ) → id_at new.spans.items c ≡ (if nat_le start c && nat_lt c end then Some id else id_at mid.spans.items c)
    columns = extended-columns mid.spans.items new.spans.items start end id before.spans some more

    by : (c : ℕ) (b : Bool) → state_at (square_or_blank content 0 (if b then Some id else id_at mid.spans.items c)) 0 0
        ≡ (if b then state else row_state content old c)
    by c true = ap (λ t. state_at t 0 0) square
    by c false = sym (row-of-spans content mid c none) ∙ kept c

pub returns-clause-fills : goal.returns-clause-fills
returns-clause-fills g c =
    let e = c.in_ok-widen.ensures.wide in
    let before = e.before c.args.start c.requires.before in
    on_ok_weaker c.extend.result
    (λ columns. fills (g.S.Squares.knows c.args.squares.now) (g.S.Squares.content c.args.squares.now) c.args.self.now c.widen.new.self
    (record c.widen.new.self { spans = c.extend.new.spans }) c.args.start c.args.end c.args.state c.cell-square.result c.requires.some c.requires.within
    e.row e.blocks refl before e.states c.cell-square.ensures.known c.cell-square.ensures.square (columns before.spans))
    c.extend.ensures.columns
