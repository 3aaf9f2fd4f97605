use Rattle.std.proofs.Common.{rules}
use Rattle.life_table.specs.Reading.{variable_states}
use Rattle.life_table.proofs.variables.variable_states.Goals as goal

pub returns : goal.returns
unfolding variable_states
returns c = search rules

pub returns-in_err-within : goal.returns-in_err-within
unfolding variable_states
returns-in_err-within c = search rules
