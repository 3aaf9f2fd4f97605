use Rattle.life_canon.proofs.runs.run_canon.Goals as goal

pub returns-clause-runs : goal.returns-clause-runs
returns-clause-runs g c = c.run_canon_within.ensures.runs
