use Rattle.std.proofs.Common.{◌∙◌}
use Rattle.life_slide.proofs.PartLemmas.{seen-alike}
use Rattle.life_slide.proofs.parts.with_firsts.Goals as goal

pub returns-clause-known : goal.returns-clause-known
returns-clause-known g c =
    let known = c.requires.known in
    record {
      nw = record { known = c.part-nw.ensures.alike.known; level = c.part-nw.ensures.alike.alike.level ∙ known.nw.level };
      ne = record { known = c.part-ne.ensures.alike.known; level = c.part-ne.ensures.alike.alike.level ∙ known.ne.level };
      sw = record { known = c.part-sw.ensures.alike.known; level = c.part-sw.ensures.alike.alike.level ∙ known.sw.level };
      se = record { known = c.part-se.ensures.alike.known; level = c.part-se.ensures.alike.alike.level ∙ known.se.level };
    }

pub returns-clause-seen : goal.returns-clause-seen
returns-clause-seen g c cells x y h =
    let content = g.S.Squares.content c.args.squares.now in
    let full = g.met.S.Squares.full c.args.squares.now in
    let known = c.requires.known in
    seen-alike content cells c.args.offset.columns c.args.offset.rows c.args.level x y c.args.block.now _
    (record {
      nw = (full _ known.nw.known, known.nw.level);
      ne = (full _ known.ne.known, known.ne.level);
      sw = (full _ known.sw.known, known.sw.level);
      se = (full _ known.se.known, known.se.level);
    })
    (record {
      nw = (full _ c.part-nw.ensures.alike.known, c.part-nw.ensures.alike.alike.level ∙ known.nw.level);
      ne = (full _ c.part-ne.ensures.alike.known, c.part-ne.ensures.alike.alike.level ∙ known.ne.level);
      sw = (full _ c.part-sw.ensures.alike.known, c.part-sw.ensures.alike.alike.level ∙ known.sw.level);
      se = (full _ c.part-se.ensures.alike.known, c.part-se.ensures.alike.alike.level ∙ known.se.level);
    })
    h c.part-nw.ensures.alike.alike c.part-ne.ensures.alike.alike c.part-sw.ensures.alike.alike c.part-se.ensures.alike.alike
