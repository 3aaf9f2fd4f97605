use Rattle.std.proofs.Common.{inl, inr, List, subst}
use Rattle.life_base.specs.declared.cell.Run.{Run}
use Rattle.life_quad.proofs.KeepingLemmas.{adds-as, adds-then}
use Rattle.life_sweep.specs.Refused.{SomeOfAll}
use Rattle.life_sweep.proofs.NeedLemmas.{none-outside}
use Rattle.life_sweep.proofs.run_builder.RunBuilder.finish.Goals as goal

pub returns-in_err-close-clause-adds : goal.returns-in_err-close-clause-adds
returns-in_err-close-clause-adds g c = adds-as _ c.in_err-close.ensures.adds (λ P s. inl s)

pub returns-clause-adds : goal.returns-clause-adds
returns-clause-adds g c =
    let close = c.in_ok-close.ensures in
    adds-then _ close.adds c.finish.ensures.grows.adds (λ P s. inl s)
    (λ P s. inr (subst (λ (runs : List Run). SomeOfAll P runs) close.drawn (record { outside = none-outside close.filling; square = s })))
