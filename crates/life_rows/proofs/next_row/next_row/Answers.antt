use Rattle.std.proofs.Common.{suc, ap, sym, ◌∙◌, subst, arith}
use Rattle.life_base.specs.Rules.{has_digit}
use Rattle.life_base.specs.Sets.{OuterTotalistic}
use Rattle.life_rows.specs.RowCells.{IsNextTo}
use Rattle.life_rows.proofs.NextRowLemmas.{next-begun, next-done, next-more}
use Rattle.life_rows.proofs.next_row.next_row.Goals as goal

pub next_cells-requires : goal.next_cells-requires
next_cells-requires c = ap (λ (d : OuterTotalistic). has_digit d.sets.births 0) (sym c.rule.view_is) ∙ c.rule.invariant.no_birth_on_zero

pub loop-place-init : goal.loop-place-init
loop-place-init c =
    let r = c.requires in
    let quiet = ap (λ (d : OuterTotalistic). has_digit d.sets.births 0) (sym c.rule.view_is) ∙ c.rule.invariant.no_birth_on_zero in record {
      within = omega arith;
      at = (c.at_edge.ensures _ r.north, c.at_edge-2.ensures _ r.here, c.at_edge-3.ensures _ r.south);
      row = subst (λ z. IsNextTo c.args.north.now c.args.here.now c.args.south.now c.args.rule.now z 0) (sym c.clear.ensures.items)
          (next-begun c.args.rule.now quiet c.args.north.now c.args.here.now c.args.south.now);
    }

pub loop-place-preserved : goal.loop-place-preserved
loop-place-preserved c =
    let r = c.requires in
    let quiet = ap (λ (d : OuterTotalistic). has_digit d.sets.births 0) (sym c.rule.view_is) ∙ c.rule.invariant.no_birth_on_zero in
    let visited = c.in-Some.ensures in
    let after = c.all_one_place_on-after.ensures in record {
      within = omega (arith, visited.within);
      at = after;
      row = next-more c.args.rule.now quiet c.args.north.now c.args.here.now c.args.south.now c.loop-place.next.items c.push_word.new.words.items
          c.loop-place.from c.in-Some.place c.next_cells.result c.loop-place.invariant.row visited.order visited.gap c.in_ok-push_word.ensures.adds
          (c.next_cells.ensures _ _ _ c.in-Some.place r.north r.here r.south visited.at_place after);
    }

pub returns-clause-edge : goal.returns-clause-edge
returns-clause-edge c =
    let quiet = ap (λ (d : OuterTotalistic). has_digit d.sets.births 0) (sym c.rule.view_is) ∙ c.rule.invariant.no_birth_on_zero in
    next-done c.args.rule.now quiet c.args.north.now c.args.here.now c.args.south.now c.loop-place.next.items c.loop-place.from c.loop-place.invariant.row
    c.in_default.ensures 0

pub returns-clause-cells : goal.returns-clause-cells
returns-clause-cells c west =
    let quiet = ap (λ (d : OuterTotalistic). has_digit d.sets.births 0) (sym c.rule.view_is) ∙ c.rule.invariant.no_birth_on_zero in
    next-done c.args.rule.now quiet c.args.north.now c.args.here.now c.args.south.now c.loop-place.next.items c.loop-place.from c.loop-place.invariant.row
    c.in_default.ensures (suc west)
