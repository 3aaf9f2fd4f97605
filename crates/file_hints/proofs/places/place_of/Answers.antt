use Rattle.file_hints.proofs.Watching.{place_found, place_not_found}
use Rattle.file_hints.proofs.places.place_of.Goals as goal

pub returns-clause-some : goal.returns-clause-some
returns-clause-some c = place_found c.args.byte c.args.text.now c.find_byte.result c.find_byte.ensures

pub returns-clause-none : goal.returns-clause-none
returns-clause-none c = place_not_found c.args.byte c.args.text.now c.find_byte.result c.find_byte.ensures
