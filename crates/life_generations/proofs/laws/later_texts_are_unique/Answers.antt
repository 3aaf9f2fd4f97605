use Rattle.life_generations.proofs.LawFacts.{texts-are-unique}
use Rattle.life_generations.proofs.laws.later_texts_are_unique.Goals as goal

pub returns : goal.returns
returns c = texts-are-unique c.files_are_on_plane.ensures c.texts_tell_universes.ensures c.files_are_unique.ensures
