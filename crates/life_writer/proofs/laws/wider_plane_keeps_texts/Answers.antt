use Rattle.life_writer.proofs.TextLaws as law
use Rattle.life_writer.proofs.laws.wider_plane_keeps_texts.Goals as goal

pub returns : goal.returns
returns c = law.wider_plane_keeps_texts
