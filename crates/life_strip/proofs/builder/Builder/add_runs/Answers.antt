use Rattle.std.proofs.Common.{rules}
use Rattle.life_strip.proofs.builder.Builder.add_runs.Goals as goal

pub returns-then-has_spans-clause-runs : goal.returns-then-has_spans-clause-runs
returns-then-has_spans-clause-runs g c = search rules
