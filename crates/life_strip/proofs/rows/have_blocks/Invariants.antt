use Rattle.std.proofs.Common.{◌≡◌, [], All, take}
use Rattle.life_strip.proofs.rows.have_blocks.Given as goal

abbrev pub invariant-loop-row : goal.invariant-loop-row
invariant-loop-row l = All (λ row. row.spans.items ≡ []) (take l.row-index l.rows)
