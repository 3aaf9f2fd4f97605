use Rattle.std.proofs.Common.{◌≡◌, ◌∙◌, ◌+◌, ◌-◌, ◌<◌, ℕ, List, false, sym, ap, refl, arith, drop, set, length, length-set}
use Rattle.life_mc.specs.Reading.{is_leaf, leaf_rows}
use Rattle.life_mc.specs.Standing.{are_rows, first_row}
use Rattle.life_mc.proofs.Leaves.{at_end_is_empty, bad_row, good_row, last_row, leaf_bytes_are, leaf_is, put_last_row, put_row, row_within, still_blank, with_rows}
use Rattle.life_mc.proofs.Words.{length_zero}
use Rattle.life_mc.proofs.leaf.read_leaf.Goals as goal

pub loop-ended-init : goal.loop-ended-init
loop-ended-init c = record { eight = refl; blank = refl; leaf = leaf_is c.args.text.now; bytes = leaf_bytes_are c.args.text.now }

pub returns-in_err-row : goal.returns-in_err-row
returns-in_err-row c =
    let no : is_leaf c.args.text.now ≡ false = c.loop-ended.invariant.leaf ∙ bad_row c.loop-ended.ended c.loop-ended.rest.now c.loop-ended-test.true
    c.in_err-row.ensures in
    rw c.from_residual.ensures no

pub returns-then-end-rest : goal.returns-then-end-rest
returns-then-end-rest c =
    let rest = c.loop-ended.rest.now in
    let ended = c.loop-ended.ended in
    let row = c.in_ok-row.ensures in
    let whole : length (first_row rest) ≡ length rest = sym row.2 ∙ c.if-end-rest.true in (
      c.loop-ended.invariant.leaf ∙ last_row ended rest c.loop-ended-test.true whole row.0,
      sym (c.loop-ended.invariant.bytes ∙ put_last_row ended c.in_ok-row.row c.loop-ended.rows rest c.loop-ended-test.true c.loop-ended.invariant.blank whole
          row.1),
    )

-- a row that does not take all of its text ends before it
ends_before : (text : List ℕ) (end : ℕ) → end ≡ length (first_row text) → (end ≡ length text → ⊥) → end < length text
ends_before text end e h = omega (arith, e, h, row_within text)

pub behind_row-rest-requires : goal.behind_row-rest-requires
behind_row-rest-requires c = ends_before c.loop-ended.rest.now c.in_ok-row.end c.in_ok-row.ensures.2 c.if-end-rest.false

pub loop-ended-preserved : goal.loop-ended-preserved
loop-ended-preserved c =
    let rest = c.loop-ended.rest.now in
    let ended = c.loop-ended.ended in
    let rows = c.loop-ended.rows in
    let row = c.in_ok-row.ensures in
    let more : length (first_row rest) < length rest = omega (arith, ends_before rest c.in_ok-row.end row.2 c.if-end-rest.false, row.2) in
    let left : drop (length (first_row rest) + 1) rest ≡ c.behind_row-rest.result.now = ap (λ n. drop (n + 1) rest) (sym row.2)
    ∙ sym c.behind_row-rest.ensures in
    record {
      eight = length-set rows ended c.in_ok-row.row ∙ c.loop-ended.invariant.eight;
      blank = still_blank ended c.in_ok-row.row rows c.loop-ended-test.true c.loop-ended.invariant.blank;
      leaf = c.loop-ended.invariant.leaf ∙ good_row ended rest c.loop-ended-test.true more row.0 ∙ ap (λ (t : List ℕ). are_rows (8 - (ended + 1)) (leaf_rows t))
          left;
      bytes =
          c.loop-ended.invariant.bytes ∙ put_row ended c.in_ok-row.row rows rest c.loop-ended-test.true c.loop-ended.invariant.eight more row.1
          ∙ ap (λ (t : List ℕ). with_rows (ended + 1) (set rows ended c.in_ok-row.row) (leaf_rows t)) left;
    }

pub returns-else-is_empty : goal.returns-else-is_empty
returns-else-is_empty c =
    let rest = c.loop-ended.rest.now in
    let none : 8 - c.loop-ended.ended ≡ 0 = omega (arith, c.loop-ended-test.false, c.loop-ended.auto.ended-end) in
    c.loop-ended.invariant.leaf ∙ ap (λ n. are_rows n (leaf_rows rest)) none ∙ at_end_is_empty rest ∙ sym (length_zero rest) ∙ sym c.is_empty.ensures
    ∙ c.if-is_empty.false
