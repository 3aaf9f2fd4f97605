use Rattle.std.proofs.Common.{rules, ◌≡◌, ℕ, ◌-◌, ◌/◌, ◌%◌, ◌^◌, ◌<◌, ◌∙◌, ap, w64, arith}
use Rattle.std.specs.Int.{bit_at, to_be_bytes}
use Rattle.std.proofs.lemmas.Nat.{be_bytes_8}
use Rattle.life_lanes.specs.Places.{place_in_leaf}
use Rattle.life_mc.specs.Cells.{leaf_cell}
use Rattle.life_quad.specs.Store.{four}
use Rattle.life_reader.proofs.LeafSquares.{cell-bit, leaf-nw, leaf-ne, leaf-sw, leaf-se}
use Rattle.life_reader.proofs.line_squares.leaf_cells.Goals as goal

-- each cell is a bit of the word
bits : (c : goal.After-by_quarters-cells) → (r i : ℕ) → r < 8 → i < 8
    → bit_at c.by_quarters-cells.result (63 - place_in_leaf r i) ≡ leaf_cell c.args.rows.now i r
bits c r i lr li =
    let bytes : to_be_bytes w64 c.from_be_bytes.result ≡ c.args.rows.now = be_bytes_8 c.args.rows.now _ (search rules) (search rules) c.from_be_bytes.ensures in
    c.by_quarters-cells.ensures r i lr li ∙ cell-bit c.args.rows.now c.from_be_bytes.result r i bytes lr li

pub returns-clause-nw : goal.returns-clause-nw
returns-clause-nw c = leaf-nw c.args.rows.now c.by_quarters-cells.result (bits c)

pub returns-clause-ne : goal.returns-clause-ne
returns-clause-ne c = leaf-ne c.args.rows.now c.by_quarters-cells.result (bits c)

pub returns-clause-sw : goal.returns-clause-sw
returns-clause-sw c = leaf-sw c.args.rows.now c.by_quarters-cells.result (bits c)

pub returns-clause-se : goal.returns-clause-se
returns-clause-se c =
    let cells = c.by_quarters-cells.result in
    let lowest : cells % 2 ^ 16 ≡ cells / 2 ^ 0 % 2 ^ 16 = omega arith in
    ap four lowest ∙ leaf-se c.args.rows.now cells (bits c)
