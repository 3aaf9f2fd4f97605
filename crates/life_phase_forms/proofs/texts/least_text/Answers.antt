use Rattle.std.proofs.Common.{◌+◌, arith}
use Rattle.life_base.specs.declared.cell.TheConstants.{MAX_LEVEL}
use Rattle.life_base.specs.declared.rule.Rule.TheVariants.{Life}
use Rattle.life_base.specs.Tree.{tree_cell}
use Rattle.life_quad.specs.Store.{content}
use Rattle.life_pattern.specs.Universe.{square_universe}
use Rattle.life_later.proofs.CourseLemmas.{none-later}
use Rattle.life_phases.proofs.PeriodLemmas.{one-later}
use Rattle.life_phase_forms.proofs.PhaseLemmas.{next-least, next-stays, trimmed-binary}
use Rattle.life_phase_forms.proofs.TextLemmas.{first-least}
use Rattle.life_phase_forms.proofs.texts.least_text.Goals as goal

pub loop-done-init : goal.loop-done-init
loop-done-init c =
    let start = content c.args.course.now c.args.start in
    record {
      count = c.requires.some;
      trimmed = c.requires.trimmed;
      later = none-later c.args.rule.now start;
      least = first-least MAX_LEVEL c.args.rule.now (square_universe (Life c.args.rule.now) 0 start) c.args.first.items c.requires.first;
    }

pub next_root-requires-clause-states : goal.next_root-requires-clause-states
next_root-requires-clause-states c = trimmed-binary (content c.loop-done.course c.loop-done.now) c.loop-done.invariant.trimmed.states

pub next_root-requires-clause-stays : goal.next_root-requires-clause-stays
next_root-requires-clause-stays c =
    let inv = c.loop-done.invariant in
    next-stays c.args.rule.now c.loop-done.done c.args.count (tree_cell (content c.args.course.now c.args.start))
    (tree_cell (content c.loop-done.course c.loop-done.now)) inv.later inv.count c.requires.stays

pub loop-done-preserved : goal.loop-done-preserved
loop-done-preserved c =
    let inv = c.loop-done.invariant in
    let l = c.loop-done-test.true in
    let rule = c.args.rule.now in
    let n = c.loop-done.done in
    let s = content c.args.course.now c.args.start in
    let u = content c.next_root.new.course c.in_ok-now.now in
    let later = one-later rule n s (content c.loop-done.course c.loop-done.now) u inv.later c.in_ok-now.ensures.later in
    record {
      count = omega (arith, l);
      trimmed = c.in_ok-now.ensures.trimmed;
      later = later;
      least = next-least rule (n + 1) s u c.loop-done.best.items c.in_ok-text.text.items c.lesser-best.result.items later inv.least c.in_ok-text.ensures.text
          c.lesser-best.ensures;
    }
