use Rattle.std.proofs.Common.{◌^◌, arith}
use Rattle.life_base.specs.declared.cell.TheConstants.{MAX_LEVEL}
use Rattle.life_quad.proofs.GrowsLemmas.{grows-as}
use Rattle.life_strip.specs.Filling.{Building}
use Rattle.life_strip.proofs.FillingLemmas.{needed-seen}
use Rattle.life_strip.proofs.builder.Builder.finish.Goals as goal

pub returns-clause-grows : goal.returns-clause-grows
returns-clause-grows g c =
    let inside : Building = record { runs = c.self.inside.log.runs; kept = c.self.inside.plane } in
    grows-as _ c.finish.ensures.grows
    (needed-seen (g.S.Squares.knows c.args.squares.now) (g.S.Squares.content c.args.squares.now) inside _ (2 ^ MAX_LEVEL) (omega arith) c.self.view_is
    c.requires.filling)
