use Rattle.golly_canon_c.proofs.files.golly_canon_step_generations.Goals as goal

pub returns-clause-answers : goal.returns-clause-answers
returns-clause-answers c = rw c.tell.ensures at c.step_generations-answer.ensures.answers

pub returns-clause-fits : goal.returns-clause-fits
returns-clause-fits c = rw c.tell.ensures at c.step_generations-answer.ensures.fits
