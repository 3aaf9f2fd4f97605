use Rattle.library_calls.proofs.Answering.{placed-compares}
use Rattle.library_calls.proofs.compared.same.Goals as goal

pub returns-clause-compares : goal.returns-clause-compares
returns-clause-compares c = placed-compares c.args.options.limit c.args.first.now c.args.second.now c.compare.result c.compare.ensures.compares
