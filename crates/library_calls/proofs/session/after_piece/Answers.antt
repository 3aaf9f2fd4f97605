use Rattle.library_calls.proofs.StreamFacts.{feeds-piece, feeds-fault, fed-ended}
use Rattle.library_calls.proofs.session.after_piece.Goals as goal

pub returns-in-Ok : goal.returns-in-Ok
returns-in-Ok c = feeds-piece c.args.piece.now c.args.session c.in-Reading.feeding c.in-Ok.feeding c.in-Reading.is c.in-Ok.ensures.fed c.in-Ok.ensures.prefix

pub returns-in-Err : goal.returns-in-Err
returns-in-Err c = feeds-fault c.args.piece.now c.args.session c.in-Reading.feeding c.in-Err.fault c.in-Reading.is c.in-Err.ensures.fault

pub returns-in_default : goal.returns-in_default
returns-in_default c = fed-ended c.args.piece.now c.args.session c.in_default.not-Reading
