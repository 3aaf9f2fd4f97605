use Rattle.golly_canon_c.proofs.files.golly_canon_step_by_table.Goals as goal

pub returns-clause-steps : goal.returns-clause-steps
returns-clause-steps c = rw c.tell.ensures at c.step_by_table-of_table.ensures.steps

pub returns-clause-fits : goal.returns-clause-fits
returns-clause-fits c = rw c.tell.ensures at c.step_by_table-of_table.ensures.fits
