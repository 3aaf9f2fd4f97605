use Rattle.library_calls.proofs.StreamFacts.{ends-text, ends-fault, ended-ended}
use Rattle.library_calls.proofs.session.after_end.Goals as goal

pub returns-in-Ok : goal.returns-in-Ok
returns-in-Ok c =
    ends-text c.args.session c.in-Reading.feeding c.in-Ok.text c.warning-warning.result c.in-Reading.is c.warning-warning.ensures c.in-Ok.ensures.text
    c.in-Ok.ensures.fits

pub returns-in-Err : goal.returns-in-Err
returns-in-Err c = ends-fault c.args.session c.in-Reading.feeding c.in-Err.fault c.in-Reading.is c.in-Err.ensures.fault

pub returns-in_default : goal.returns-in_default
returns-in_default c = ended-ended c.args.session c.in_default.not-Reading
