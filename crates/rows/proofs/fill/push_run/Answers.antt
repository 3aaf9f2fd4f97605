use Rattle.std.proofs.Common.{[], List, sym, subst, rules}
use Rattle.life_base.specs.declared.cell.Run.{Run}
use Rattle.life_strip.specs.Given.{AreNext, IsNextRunStart, IsRunOnPlane}
use Rattle.life_strip.proofs.GivenLemmas.{next-push}
use Rattle.rows.proofs.Runs.{next-snoc}
use Rattle.rows.proofs.fill.push_run.Goals as goal

pub returns-in-Ok-clause-all : goal.returns-in-Ok-clause-all
returns-in-Ok-clause-all c =
    let run = c.args.run in
    let runs = c.args.runs.now.items in
    let inside : IsRunOnPlane run.x run.y run.len = search rules in
    subst (AreNext []) (sym c.in-Ok.ensures.items)
    (next-snoc [] runs run c.requires.all (c.is_on_plane.ensures.positive c.if-not-is_on_plane.false)
    inside
    (c.requires.next run.x run.y (c.is_after.ensures c.if-not-is_after.false)))

pub returns-in-Ok-clause-next : goal.returns-in-Ok-clause-next
returns-in-Ok-clause-next c x y after =
    subst (λ (z : List Run). IsNextRunStart z x y) (sym c.in-Ok.ensures.items) (next-push c.args.runs.now.items c.args.run x y after)

pub returns-in-Err-clause-next : goal.returns-in-Err-clause-next
returns-in-Err-clause-next c x y after =
    subst (λ (z : List Run). IsNextRunStart z x y) (sym c.in-Err.ensures.items) (c.requires.next x y after)
