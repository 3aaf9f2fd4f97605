use Rattle.life_block.proofs.GenerationLemmas.{clear-edge, not-false}
use Rattle.life_block.proofs.generation.reaches_edge.Goals as goal

pub returns-clause-clear : goal.returns-clause-clear
returns-clause-clear g c off whole =
    let e = c.is_off_edge.ensures in
    let b = not-false c.is_off_edge.result off in
    clear-edge _ _ whole c.in-Some.is c.in_ok-found.ensures.least (e.west b) (e.east b) (e.north b) (e.south b)
