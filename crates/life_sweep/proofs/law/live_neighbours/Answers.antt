use Rattle.std.proofs.Common.{ap, sym, ◌∙◌}
use Rattle.life_table.specs.Meaning.{count_of}
use Rattle.life_sweep.specs.Generation.{neighborhood_of_rule, neighbours_among}
use Rattle.life_sweep.proofs.LawLemmas.{count-eight}
use Rattle.life_sweep.proofs.law.live_neighbours.Goals as goal

pub returns-in-Moore-clause-count : goal.returns-in-Moore-clause-count
returns-in-Moore-clause-count c =
    count-eight c.args.around.now c.told-around c.requires
    ∙ ap (λ near. count_of 1 (neighbours_among (neighborhood_of_rule near) c.args.around.now)) (sym c.in-Moore.is)
