use Rattle.file_keys.proofs.StreamLemmas.{entry_written}
use Rattle.file_keys.proofs.keys.outputs.Outputs.put_warned.Goals as goal

pub returns-clause-entry : goal.returns-clause-entry
returns-clause-entry g c =
    entry_written _ _ _ _ _ _ _ _ _ c.args.self.now _ _ c.put.result c.args.name.now c.args.outcome c.args.warning c.tell_warning-self.ensures
    c.put.ensures.processed
