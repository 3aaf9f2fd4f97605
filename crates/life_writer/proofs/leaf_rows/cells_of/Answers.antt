use Rattle.std.proofs.Common.{rules, ◌<◌, ◌∙◌, ap, sym}
use Rattle.life_quad.specs.Store.{four}
use Rattle.life_writer.proofs.LeafWords.{in-word}
use Rattle.life_writer.proofs.leaf_rows.cells_of.Goals as goal

pub returns : goal.returns
returns g c =
    let nw : c.from.result < 65536 = search rules in
    let ne : c.from-2.result < 65536 = search rules in
    let sw : c.from-3.result < 65536 = search rules in
    let se : c.from-4.result < 65536 = search rules in
    let w = in-word c.from.result c.from-2.result c.from-3.result c.from-4.result nw ne sw se in (
      c.in_ok-nw.ensures ∙ ap four (sym c.from.ensures ∙ w.0),
      c.in_ok-ne.ensures ∙ ap four (sym c.from-2.ensures ∙ w.1),
      c.in_ok-sw.ensures ∙ ap four (sym c.from-3.ensures ∙ w.2),
      c.in_ok-se.ensures ∙ ap four (sym c.from-4.ensures ∙ w.3),
    )
