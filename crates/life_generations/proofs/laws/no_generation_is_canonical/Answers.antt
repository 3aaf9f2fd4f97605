use Rattle.life_generations.proofs.LawFacts.{none-canonical}
use Rattle.life_generations.proofs.laws.no_generation_is_canonical.Goals as goal

pub returns : goal.returns
returns c = none-canonical c.files_are_on_plane.ensures c.texts_tell_universes.ensures c.texts_are_files.ensures
