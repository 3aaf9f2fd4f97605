use Rattle.std.proofs.Common.{◌≡◌, ◌++◌, length}
use Rattle.file_keys.specs.Keys.{escaped_name}
use Rattle.file_keys.proofs.keys.lines.append_escaped.Given as goal

abbrev pub invariant-loop-rest : goal.invariant-loop-rest
invariant-loop-rest l = l.initial.line.items ++ escaped_name l.name ≡ l.line.items ++ escaped_name l.rest

abbrev pub decreases-loop-rest : goal.decreases-loop-rest
decreases-loop-rest l = length l.rest
