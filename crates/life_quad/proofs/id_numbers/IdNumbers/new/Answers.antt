use Rattle.std.proofs.Common.{◌≡◌, ◌+◌, ◌-◌, length, rules, arith}
use Rattle.life_quad.proofs.CallLemmas.{from_first}
use Rattle.life_quad.proofs.id_numbers.IdNumbers.new.Goals as goal

pub returns-clause-space : goal.returns-clause-space
returns-clause-space c = λ id known high shown.
    let first = c.first_of-first.ensures in
    let from = from_first c.args.store.now c.args.level id known high shown in
    let below = known.named.below in
    let long : length c.resize.new.self.items ≡ length c.args.store.now.nodes + (66064 - c.first_of-first.result) = search rules in
    (omega (arith, first, from), omega (arith, first, from, below, long))
