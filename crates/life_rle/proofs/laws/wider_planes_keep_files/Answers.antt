use Rattle.life_rle.proofs.WiderPlanes.{wider_planes_keep_files}
use Rattle.life_rle.proofs.laws.wider_planes_keep_files.Goals as goal

pub returns : goal.returns
returns c = wider_planes_keep_files
