use Rattle.golly_canon_c.proofs.Numbers.{unsaid}
use Rattle.golly_canon_c.proofs.names.golly_canon_sentence.Goals as goal

pub returns-clause-none : goal.returns-clause-none
returns-clause-none c not_space not_form differs = rw (c.meaning_of.ensures, unsaid c.args.number not_space not_form differs) at c.tell_name.ensures
