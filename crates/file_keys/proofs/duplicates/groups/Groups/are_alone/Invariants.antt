use Rattle.std.proofs.Common.{◌≡◌}
use Rattle.indexmap.specs.IndexMap.{values}
use Rattle.file_keys.proofs.DuplicateLemmas.{several_of}
use Rattle.file_keys.proofs.duplicates.groups.Groups.are_alone.Given as goal

abbrev pub invariant-loop-group : goal.invariant-loop-group
invariant-loop-group l = several_of (values l.self.by_key) ≡ several_of l.group-iterator
