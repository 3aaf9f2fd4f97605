use Rattle.life_cli.proofs.reports.report.Goals as goal

pub returns-in-TwoInputs-clause-reported : goal.returns-in-TwoInputs-clause-reported
returns-in-TwoInputs-clause-reported g c = rw c.in-TwoInputs.is c.misuse.ensures.reported
