use Rattle.life_phase_forms.proofs.TellLemmas.{texts-tell-files}
use Rattle.life_phase_forms.proofs.laws.phases_texts_tell_files.Goals as goal

pub returns : goal.returns
returns c = texts-tell-files c.texts_tell_universes.ensures c.files_are_on_plane.ensures c.files_are_unique.ensures
