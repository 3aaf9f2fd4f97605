use Rattle.std.proofs.Common.{inl}
use Rattle.std.proofs.lemmas.Result.{err_from_is_err_and}
use Rattle.life_periods.proofs.files.show_with_period.Goals as goal

pub returns-in_err-text-clause-refused : goal.returns-in_err-text-clause-refused
returns-in_err-text-clause-refused c =
    let p = err_from_is_err_and c.from_residual.result c.from_residual.ensures.1 in
    rw (p.1, p.2) (inl (inl c.in_err-text.ensures.memory))

pub returns-in_err-found-clause-refused : goal.returns-in_err-found-clause-refused
returns-in_err-found-clause-refused c =
    let p = err_from_is_err_and c.from_residual-in_err-found.result c.from_residual-in_err-found.ensures.1 in
    rw (p.1, p.2) c.in_err-found.ensures.refused

pub returns-clause-text : goal.returns-clause-text
returns-clause-text c = λ bytes r. record {
  lines = c.in_ok-text.text.items;
  shown = c.in_ok-text.ensures.text bytes r;
  answer = c.in_ok-found.found;
  period = c.in_ok-found.ensures.period bytes r;
  is = c.in_ok-append_period.ensures.ok;
}
