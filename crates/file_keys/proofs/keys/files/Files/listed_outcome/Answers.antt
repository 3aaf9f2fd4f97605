use Rattle.file_keys.specs.KeyRuns.{by_call}
use Rattle.command_line.specs.declared.origins.Origin.TheVariants.{File}
use Rattle.file_keys.proofs.keys.files.Files.listed_outcome.Goals as goal

pub returns-in-Ok-clause-takes : goal.returns-in-Ok-clause-takes
returns-in-Ok-clause-takes g c =
    let comes = c.outcome.ensures.comes in
    by_call (File c.in-Ok.text) comes.0 c.in-Ok.ensures.cases.0 comes.1 comes.2
