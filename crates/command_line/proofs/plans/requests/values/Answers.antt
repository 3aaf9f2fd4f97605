use Rattle.std.proofs.Common.{◌≡◌, ◌∙◌, [], ap, map, rules}
use Rattle.std.proofs.lemmas.Result.{IfOk-weaker}
use Rattle.clap.specs.Words.{found_of}
use Rattle.command_line.proofs.MatchesLemmas.{values_found, values_missing}
use Rattle.command_line.proofs.plans.requests.values.Goals as goal

pub returns-in-Some-clause-ok : goal.returns-in-Some-clause-ok
returns-in-Some-clause-ok c =
    let found = values_found (found_of c.args.found.now) c.args.id.now c.in-Some.names.now (rw c.in-Some.is at c.get_strs.ensures) in
    IfOk-weaker c.copy_of.result _ _ (λ files is. ap (map (λ name. name.now)) is ∙ found) c.copy_of.ensures.ok

pub returns-in-None-clause-ok : goal.returns-in-None-clause-ok
returns-in-None-clause-ok c =
    let empty : c.new.result.items ≡ [] = search rules in
    ap (map (λ name. name.now)) empty ∙ values_missing (found_of c.args.found.now) c.args.id.now (rw c.in-None.is at c.get_strs.ensures)
