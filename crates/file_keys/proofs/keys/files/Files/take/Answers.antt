use Rattle.file_keys.specs.KeyRuns.{by_call}
use Rattle.file_keys.proofs.keys.files.Files.take.Goals as goal

pub returns-in-Word-clause-takes : goal.returns-in-Word-clause-takes
returns-in-Word-clause-takes g c =
    let comes = c.outcome.ensures.comes in
    rw c.in-Word.is (by_call c.origin_of.result comes.0 c.origin_of.ensures comes.1 comes.2)

pub returns-in-Listed-clause-takes : goal.returns-in-Listed-clause-takes
returns-in-Listed-clause-takes g c = rw c.in-Listed.is c.listed_outcome.ensures.takes
