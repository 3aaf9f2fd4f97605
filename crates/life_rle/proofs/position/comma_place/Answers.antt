use Rattle.life_base.proofs.FirstFeed.{first_is}
use Rattle.memchr.specs.Find.{is_byte}
use Rattle.life_rle.proofs.position.comma_place.Goals as goal

pub returns : goal.returns
returns c = first_is (is_byte 44) c.args.text.now c.find_byte.result c.find_byte.ensures
