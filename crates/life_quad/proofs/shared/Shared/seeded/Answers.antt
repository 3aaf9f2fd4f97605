use Rattle.std.proofs.Common.{◌≡◌, ◌+◌, length, rules}
use Rattle.life_quad.specs.IdMap.{value_of_id}
use Rattle.life_quad.specs.Store.{Nodes, IsSoundStore, IsShared, squares, levels_of}
use Rattle.life_quad.proofs.CallLemmas.{held-none, HasSeen-none}
use Rattle.life_quad.proofs.shared.Shared.seeded.Goals as goal

pub invariant_of-result : goal.invariant_of-result
unfolding squares
invariant_of-result c =
    let s : Nodes = record { nodes = c.with_hasher.result.keys; log = c.new-3.result.ids; limit = c.args.limit } in
    let sound : IsSoundStore s = search rules in
    let shared : IsShared s = search rules in
    let count : length s.log ≡ length s.nodes + 0 = search rules in
    let levels : c.new.result.items ≡ levels_of c.with_hasher.result.keys = search rules in
    (sound, shared, HasSeen-none (value_of_id c.new-2.result) s.log c.new-2.ensures c.new-3.ensures, count, levels)

pub returns-clause-stored : goal.returns-clause-stored
returns-clause-stored c = held-none (record { nodes = c.with_hasher.result.keys; log = c.new-3.result.ids; limit = c.args.limit }) c.new-3.ensures

pub returns-clause-most : goal.returns-clause-most
returns-clause-most c = search rules
