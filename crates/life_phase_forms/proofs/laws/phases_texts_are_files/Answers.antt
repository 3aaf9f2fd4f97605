use Rattle.life_phase_forms.proofs.TellLemmas.{texts-are-files}
use Rattle.life_phase_forms.proofs.laws.phases_texts_are_files.Goals as goal

pub returns : goal.returns
returns c = texts-are-files c.texts_tell_universes.ensures c.files_are_on_plane.ensures c.texts_are_files.ensures
