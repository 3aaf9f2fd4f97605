use Rattle.golly_canon.proofs.arguments.report_unreadable.Goals as goal

pub returns-in-NoText-clause-reported : goal.returns-in-NoText-clause-reported
returns-in-NoText-clause-reported g c = rw c.in-NoText.is c.report_no_text.ensures.reported
