use Rattle.life_forms.proofs.SmallCorners.{four-corner}
use Rattle.life_forms.proofs.corners.four_in.Goals as goal

pub returns : goal.returns
returns c =
    four-corner c.squares_are_centred.ensures c.args.store.now c.args.pattern.now c.requires.trimmed c.requires.life c.args.found.now c.requires.bounds _
    c.requires.enough c.requires.short c.args.columns c.args.rows c.in_ok-leaf.leaf c.in_ok-leaf.ensures
