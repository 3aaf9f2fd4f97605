use Rattle.life_next.proofs.WordLemmas.{bits-picked}
use Rattle.life_next.proofs.counts.BitCounts.columns_with.Goals as goal

pub returns-clause-here : goal.returns-clause-here
returns-clause-here c i l =
    let s = c.args.self.now in
    (bits-picked s.ones s.twos s.fours s.eights _ _ _ _ i c.args.count c.requires (c.with_digit.ensures i l) (c.with_digit-2.ensures i l)
    (c.with_digit-3.ensures i l) (c.with_digit-4.ensures i l)).0

pub returns-clause-others : goal.returns-clause-others
returns-clause-others c i l =
    let s = c.args.self.now in
    (bits-picked s.ones s.twos s.fours s.eights _ _ _ _ i c.args.count c.requires (c.with_digit.ensures i l) (c.with_digit-2.ensures i l)
    (c.with_digit-3.ensures i l) (c.with_digit-4.ensures i l)).1
