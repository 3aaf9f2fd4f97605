use Rattle.std.proofs.Common.{◌≡◌, ℕ, ◌<◌, get_or}
use Rattle.life_table.specs.Index.{Stay, IsApart}
use Rattle.life_table.specs.declared.table.Transition.{Transition}
use Rattle.life_table.proofs.block.Block.put_pairs.Given as goal

-- the lines so far are in the sets
abbrev pub invariant-loop-k : goal.invariant-loop-k
invariant-loop-k l = record {
  put : (k : ℕ) (d : Transition) → k < l.k → IsApart (get_or l.lines k d).inputs l.p k l.self.apart;
  stay : Stay l.fn.self.apart l.self.apart;
  same : l.self.sets ≡ l.fn.self.sets;
}
