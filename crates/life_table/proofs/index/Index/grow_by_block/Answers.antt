use Rattle.std.proofs.Common.{◌≡◌, ℕ, ◌*◌, length, is_ok, subst, arith}
use Rattle.life_table.specs.Index.{HasLines}
use Rattle.life_table.proofs.Indexing.{block_pushed}
use Rattle.life_table.proofs.index.Index.grow_by_block.Goals as goal

pub invariant_of-self : goal.invariant_of-self
invariant_of-self c =
    let table = c.self.inside.table.now in
    let blocks = c.self.inside.blocks.items in
    let size : c.len-blocks.result ≡ length blocks = omega (arith, c.len-blocks.ensures, c.self.inside.blocks.ok.0) in
    block_pushed table.vars table.lines blocks c.push.new.self.items c.new-block.result (is_ok c.push.result) c.push.ensures.items c.self.invariant
    (subst (λ (n : ℕ). HasLines table.vars table.lines (64 * n) c.new-block.result) size c.new-block.ensures)
