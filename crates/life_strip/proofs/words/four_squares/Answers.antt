use Rattle.life_strip.proofs.WordLemmas.{square-among}
use Rattle.life_strip.proofs.words.four_squares.Goals as goal

pub returns : goal.returns
returns c =
    let rows = c.sixteen_columns.ensures in
    square-among c.args.upper c.args.lower c.args.part c.sixteen_columns.result c.by_squares.result rows.first rows.second rows.third rows.fourth
    c.by_squares.ensures
