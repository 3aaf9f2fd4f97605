use Rattle.golly_canon_c.proofs.Numbers.{unnamed}
use Rattle.golly_canon_c.proofs.names.golly_canon_status_name.Goals as goal

pub returns-clause-none : goal.returns-clause-none
returns-clause-none c not_ok not_space not_form differs = rw (c.name_of.ensures, unnamed c.args.number not_ok not_space not_form differs) at c.tell_name.ensures
