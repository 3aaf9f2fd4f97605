use Rattle.std.proofs.Common.{◌∙◌, ◌++◌, ◌∷◌, [], List, ap, map}
use Rattle.life_table.specs.ByName.{var_of}
use Rattle.life_table.specs.Reading.{variable_named}
use Rattle.life_table.specs.declared.table.Var.{Var}
use Rattle.life_table.proofs.Lookup.{pushed}
use Rattle.life_table.proofs.by_name.Variables.push.Goals as goal

pub returns-clause-ok : goal.returns-clause-ok
returns-clause-ok c =
    let none = ap (λ (vars : List Var). variable_named vars c.args.var.name) c.self.view_is ∙ c.requires.unnamed in
    ap (map var_of) c.in_ok-insert.ensures.entries ∙ pushed c.self.inside.states c.into_vec.result c.args.var c.into_vec.ensures none
    ∙ ap (λ (vars : List Var). vars ++ c.args.var ∷ []) c.self.view_is
