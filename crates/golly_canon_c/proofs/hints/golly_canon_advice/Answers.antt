use Rattle.golly_canon_c.proofs.Numbers.{unadvised}
use Rattle.golly_canon_c.proofs.hints.golly_canon_advice.Goals as goal

pub returns-clause-none : goal.returns-clause-none
returns-clause-none c differs = rw (c.advice_of.ensures, unadvised c.args.number _ c.args.bytes.now differs) at c.tell_name.ensures
