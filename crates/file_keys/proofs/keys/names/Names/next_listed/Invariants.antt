use Rattle.std.proofs.Common.{◌≡◌, length}
use Rattle.file_keys.specs.KeyRuns.{names_in_list}
use Rattle.file_keys.proofs.keys.names.Names.next_listed.Given as goal

abbrev pub invariant-loop-name : goal.invariant-loop-name
invariant-loop-name l = (names_in_list l.initial.self ≡ names_in_list l.self) × (l.self.words ≡ l.initial.self.words)
    × (l.self.at ≡ l.initial.self.at)

abbrev pub decreases-loop-name : goal.decreases-loop-name
decreases-loop-name l = length l.self.list.now
