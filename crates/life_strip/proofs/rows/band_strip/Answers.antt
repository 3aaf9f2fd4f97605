use Rattle.std.proofs.Common.{◌≡◌, ℕ, ◌<◌, All, List, length, get_or, arith, refl, sym, subst}
use Rattle.life_base.specs.Tree.{Tree}
use Rattle.life_quad.specs.declared.id.Id.{Id}
use Rattle.life_quad.specs.Refused.{SomePart}
use Rattle.life_quad.proofs.GrowsLemmas.{grows-err, grows-ok, grows-same}
use Rattle.life_strip.specs.declared.blocks.Block.{Block}
use Rattle.life_strip.specs.declared.row.Row.{Row}
use Rattle.life_strip.specs.Blocks.{AreRowBlocks, four_in}
use Rattle.life_strip.specs.Needed.{SomeColumn, SomeSquare}
use Rattle.life_strip.specs.Row.{IsRow, rows_state}
use Rattle.life_strip.proofs.BandPictures.{picture-read, SomeSquare-read}
use Rattle.life_strip.proofs.rows.band_strip.Given.{Over}
use Rattle.life_strip.proofs.rows.band_strip.Goals as goal
use Rattle.life_strip.proofs.rows.band_strip.Goals.{After-band_spans}

-- the blocks of one of some rows
blocks-at : (knows : Id → Type 0) (content : Id → Tree) (xs : List Row) (k : ℕ) (d : Row) (blocks : List Block) → k < length xs
    → blocks ≡ (get_or xs k d).blocks.items → All (IsRow knows content) xs → AreRowBlocks blocks
blocks-at knows content xs k d blocks lt e rows = subst AreRowBlocks (sym e) (rows k d lt).blocks

pub band_spans-requires : goal.band_spans-requires
band_spans-requires g c =
    let K = g.S.Squares.knows c.args.squares.now in
    let C = g.S.Squares.content c.args.squares.now in
    let rows = c.args.rows.now in
    let r = c.requires in record {
      first = blocks-at K C rows 0 _ _ (omega (arith, r.count)) c.as_slice-first.ensures.value r.rows;
      second = blocks-at K C rows 1 _ _ (omega (arith, r.count)) c.as_slice-second.ensures.value r.rows;
      third = blocks-at K C rows 2 _ _ (omega (arith, r.count)) c.as_slice-third.ensures.value r.rows;
      fourth = blocks-at K C rows 3 _ _ (omega (arith, r.count)) c.as_slice-fourth.ensures.value r.rows;
    }

pub returns-clause-picture : goal.returns-clause-picture
returns-clause-picture g c =
    picture-read (g.S.Squares.content c.args.squares.now) c.args.rows.now c.requires.count (c.have_blocks.ensures c.if-not-have_blocks.false) _ _ _ _ _ _ _ _
    c.index-rows-0.is c.index-rows-1.is c.index-rows-2.is c.index-rows-3.is c.as_slice-first.ensures.value c.as_slice-second.ensures.value
    c.as_slice-third.ensures.value c.as_slice-fourth.ensures.value
    (g.S.Squares.content c.band_spans.new.squares) (record { level = 2; spans = c.in_ok-spans.spans }) refl c.in_ok-spans.ensures.squares

-- a square of the four rows that the band needs is one of their picture
needed : (g : Over) (c : After-band_spans g) (P : Tree → Type 0) → let C = g.S.Squares.content c.args.squares.now in
    SomeColumn (SomePart P) 2
    (four_in c.as_slice-first.result.now c.as_slice-second.result.now c.as_slice-third.result.now c.as_slice-fourth.result.now)
    → SomeSquare P 4 (rows_state C c.args.rows.now)
needed g c P n =
    SomeSquare-read (g.S.Squares.content c.args.squares.now) c.args.rows.now c.requires.count (c.have_blocks.ensures c.if-not-have_blocks.false)
    _ _ _ _ _ _ _ _
    c.index-rows-0.is c.index-rows-1.is c.index-rows-2.is c.index-rows-3.is c.as_slice-first.ensures.value c.as_slice-second.ensures.value
    c.as_slice-third.ensures.value c.as_slice-fourth.ensures.value
    P n.0 n.1 n.2

pub returns-then-not-have_blocks-clause-grows : goal.returns-then-not-have_blocks-clause-grows
returns-then-not-have_blocks-clause-grows g c = grows-same _ c.args.squares.now tt

pub returns-in_err-spans-clause-grows : goal.returns-in_err-spans-clause-grows
returns-in_err-spans-clause-grows g c =
    grows-err _ c.in_err-spans.ensures.grows c.from_residual.ensures.1 (needed g (goal.at.returns-in_err-spans-clause-grows g c).After-band_spans)

pub returns-clause-grows : goal.returns-clause-grows
returns-clause-grows g c = grows-ok _ c.in_ok-spans.ensures.grows (needed g (goal.at.returns-clause-grows g c).After-band_spans)
