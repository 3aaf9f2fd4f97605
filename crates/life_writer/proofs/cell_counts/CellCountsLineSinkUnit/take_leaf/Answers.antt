use Rattle.life_mc.specs.declared.line.Line.TheVariants.{Leaf}
use Rattle.life_writer.specs.Listing.{rows_of}
use Rattle.life_writer.proofs.CountingFacts.{leaf-cells, takes-count}
use Rattle.life_writer.proofs.cell_counts.CellCountsLineSinkUnit.take_leaf.Goals as goal

pub returns-clause-took : goal.returns-clause-took
returns-clause-took g c = λ start lines.
    let t = g.O.Orientation.seen c.args.orientation.now (g.S.Squares.content c.args.squares.now c.args.id) in
    takes-count start.0.counts.items c.args.self.now.counts.items c.push.new.self.items lines (Leaf (rows_of t)) c.leaf_population-count.result
    c.in_ok-push.ensures.items
    (λ small. leaf-cells t c.leaf_population-count.result
    (g.met.O.Orientation.full c.args.orientation.now _ (g.met.S.Squares.full _ _ c.requires.known)) c.requires.level c.requires.states
    c.leaf_population-count.ensures)
