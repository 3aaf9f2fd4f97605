use Rattle.life_base.proofs.FirstFeed.{first_is}
use Rattle.memchr.specs.Find.{is_byte}
use Rattle.life_rle.proofs.line_items.mark_place.Goals as goal

pub returns : goal.returns
returns c = first_is (is_byte 33) c.args.line.now c.find_byte.result c.find_byte.ensures
