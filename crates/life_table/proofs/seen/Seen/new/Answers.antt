use Rattle.life_table.proofs.Seeing.{seen_is}
use Rattle.life_table.proofs.seen.Seen.new.Goals as goal

pub returns : goal.returns
returns c = seen_is c.args.vars.now c.args.others.now c.round-around.result c.places_of_states.result c.places_of_variables.result c.round-around.ensures
    c.places_of_states.ensures c.places_of_variables.ensures
