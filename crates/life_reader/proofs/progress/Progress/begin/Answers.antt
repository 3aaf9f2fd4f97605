use Rattle.life_reader.proofs.progress.Progress.begin.Goals as goal

pub returns-then-matches-clause-stands : goal.returns-then-matches-clause-stands
returns-then-matches-clause-stands c = λ store h. c.begun.ensures.stands store
