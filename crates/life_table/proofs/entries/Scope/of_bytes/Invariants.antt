use Rattle.std.proofs.Common.{◌≡◌, map, drop}
use Rattle.life_table.specs.Reading.{entry_of, all_some, bytes_alone}
use Rattle.life_table.proofs.Listed.{joined, solid}
use Rattle.life_table.proofs.entries.Scope.of_bytes.Given as goal

abbrev pub invariant-loop-byte : goal.invariant-loop-byte
invariant-loop-byte l =
    all_some (map (entry_of l.self.n_states l.self.vars.now) (bytes_alone l.text))
    ≡ joined l.entries.items (all_some (map (entry_of l.self.n_states l.self.vars.now) (solid (drop l.byte-index l.text))))
