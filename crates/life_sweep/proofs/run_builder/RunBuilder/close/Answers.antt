use Rattle.std.proofs.Common.{◌++◌, sym, subst, Option, IfSome}
use Rattle.std.proofs.lemmas.Result.{err_from_is_err_and}
use Rattle.life_base.specs.declared.cell.Run.{Run}
use Rattle.life_quad.proofs.KeepingLemmas.{adds-as}
use Rattle.life_sweep.specs.Refused.{SomeAbove}
use Rattle.life_sweep.specs.RunBuilder.{IsOpenRun, open_runs}
use Rattle.life_sweep.proofs.NeedLemmas.{open-needs}
use Rattle.life_sweep.proofs.run_builder.RunBuilder.close.Goals as goal

pub returns-in_err-add_run-clause-needed : goal.returns-in_err-add_run-clause-needed
returns-in_err-add_run-clause-needed g c =
    let P = g.S.Squares.needs_node c.add_run.new.squares in
    let runs = c.args.self.now.builder.runs in
    let run = c.in-Some.run' in
    let opened : IsOpenRun runs run = subst (λ (o : Option Run). IfSome o (IsOpenRun runs)) c.in-Some.is c.requires.holding.unclosed in
    let p = err_from_is_err_and c.from_residual.result c.from_residual.ensures.1 in
    rw (p.1, p.2)
    (λ e. subst (λ (o : Option Run). SomeAbove P (runs ++ open_runs o)) (sym c.in-Some.is)
    (open-needs P runs run c.requires.holding.filling.order opened (c.in_err-add_run.ensures.grows.needed e)))

pub returns-in_err-add_run-clause-adds : goal.returns-in_err-add_run-clause-adds
returns-in_err-add_run-clause-adds g c =
    let runs = c.args.self.now.builder.runs in
    let run = c.in-Some.run' in
    let opened : IsOpenRun runs run = subst (λ (o : Option Run). IfSome o (IsOpenRun runs)) c.in-Some.is c.requires.holding.unclosed in
    adds-as _ c.in_err-add_run.ensures.grows.adds
    (λ P s. subst (λ (o : Option Run). SomeAbove P (runs ++ open_runs o)) (sym c.in-Some.is) (open-needs P runs run c.requires.holding.filling.order opened s))

pub returns-clause-adds : goal.returns-clause-adds
returns-clause-adds g c =
    let runs = c.args.self.now.builder.runs in
    let run = c.in-Some.run' in
    let opened : IsOpenRun runs run = subst (λ (o : Option Run). IfSome o (IsOpenRun runs)) c.in-Some.is c.requires.holding.unclosed in
    adds-as _ c.in_ok-add_run.ensures.grows.adds
    (λ P s. subst (λ (o : Option Run). SomeAbove P (runs ++ open_runs o)) (sym c.in-Some.is) (open-needs P runs run c.requires.holding.filling.order opened s))
