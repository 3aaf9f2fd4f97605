use Rattle.std.proofs.Common.{arith, sym, ◌∙◌, ◌^◌, ◌-◌}
use Rattle.std.proofs.lemmas.Result.{err_from_is_err_and}
use Rattle.life_base.proofs.Numbers.{refused_below}
use Rattle.life_base.proofs.text.read_up_to.Goals as goal

pub returns-in_err-number : goal.returns-in_err-number
returns-in_err-number c =
    let p = err_from_is_err_and c.from_residual.result c.from_residual.ensures.1 in
    rw (p.1, p.2) (refused_below c.args.text.now c.args.most (2 ^ 64 - 1) c.in_err-number.field-0.0 (omega arith)
    (sym c.read_u64.ensures ∙ c.in_err-number.was))
