use Rattle.std.proofs.Common.{◌+◌, ◌++◌, ◌∷◌, [], sym, subst, arith}
use Rattle.std.proofs.lemmas.Int.{ints}
use Rattle.life_strip.specs.Blocks.{AddsCells}
use Rattle.life_strip.specs.Open.{blocks_of}
use Rattle.life_strip.proofs.OpenLemmas.{adds-behind}
use Rattle.life_strip.proofs.open_blocks.OpenBlocks.begin_block.Goals as goal
use Rattle.life_strip.proofs.open_blocks.OpenBlocks.begin_block.Goals.{After-coordinate-self}

adds : (c : After-coordinate-self)
    → AddsCells (blocks_of c.args.self.now) (c.push_reserved.new.self.items ++ c.block_of-self.result ∷ []) c.args.start (c.args.start + c.args.len)
adds c =
    let r = c.requires in
    let old = c.args.self.now in
    let b = c.block_of-self.ensures in
    subst (λ z. AddsCells (blocks_of old) (z ++ c.block_of-self.result ∷ []) c.args.start (c.args.start + c.args.len)) (sym c.push_reserved.ensures.items)
    (adds-behind old.blocks.items old.last c.args.start c.args.len r.sound.blocks r.before r.some r.within (omega (arith, c.if-start-len-gt64.false)) r.behind
    c.block_of-self.result b.start b.end b.cells)

pub returns-clause-sound : goal.returns-clause-sound
returns-clause-sound c = record {
  blocks = (adds (goal.at.returns-clause-sound c).After-coordinate-self).blocks;
  west = let at = c.coordinate-self.ensures in let start = c.block_of-self.ensures.start in omega (arith, ints, at, start, c.requires.within);
  space = let len = c.push_reserved.ensures.len in let capacity = c.push_reserved.ensures.capacity in omega (arith, len, capacity, c.if-len-capacity.false);
}

pub returns-clause-adds : goal.returns-clause-adds
returns-clause-adds c t = adds (goal.at.returns-clause-adds c).After-coordinate-self
