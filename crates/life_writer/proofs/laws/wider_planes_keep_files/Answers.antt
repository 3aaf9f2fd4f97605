use Rattle.life_writer.proofs.WiderPlanes as law
use Rattle.life_writer.proofs.laws.wider_planes_keep_files.Goals as goal

pub returns : goal.returns
returns c = law.wider_planes_keep_files
