use Rattle.std.proofs.Common.{◌∙◌, ap, List}
use Rattle.life_table.specs.Reading.{variable_named}
use Rattle.life_table.specs.declared.table.Var.{Var}
use Rattle.life_table.proofs.Lookup.{number_named}
use Rattle.life_table.proofs.by_name.Variables.number_of.Goals as goal

pub returns : goal.returns
returns c =
    c.get_index_of.ensures.index ∙ number_named c.args.name.now c.self.inside.states.entries
    ∙ ap (λ (vars : List Var). variable_named vars c.args.name.now) c.self.view_is
