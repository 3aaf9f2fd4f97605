use Rattle.std.proofs.Common.{◌≡◌, take, count_by}
use Rattle.life_table.specs.Index.{is_among}
use Rattle.life_table.proofs.some_order.count_among.Given as goal

-- those so far are counted
abbrev pub invariant-loop-s : goal.invariant-loop-s
invariant-loop-s l = l.count ≡ count_by (is_among l.states) (take l.s-index l.others)
