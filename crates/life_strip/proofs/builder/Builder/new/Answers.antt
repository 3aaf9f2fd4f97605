use Rattle.std.proofs.Common.{rules}
use Rattle.life_strip.proofs.builder.Builder.new.Goals as goal

pub returns-clause-runs : goal.returns-clause-runs
returns-clause-runs c = search rules

pub returns-clause-empty : goal.returns-clause-empty
returns-clause-empty c = search rules
