use Rattle.std.proofs.Common.{length, take}
use Rattle.life_table.proofs.Grouping.{grouped_moved}
use Rattle.life_table.proofs.groups.groups_of.Goals as goal

pub returns-clause-grouped : goal.returns-clause-grouped
returns-clause-grouped c =
    grouped_moved c.args.first c.args.output c.args.inputs.now (take (length c.args.inputs.now) c.most_first.result)
    (take c.groups_in_order.result.1 c.groups_in_order.result.0) c.most_first.ensures c.groups_in_order.ensures.grouped
