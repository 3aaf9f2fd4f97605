use Rattle.life_writer.proofs.CountingFacts.{takes-count}
use Rattle.life_writer.proofs.cell_counts.CellCountsLineSinkUnit.take.Goals as goal

pub returns-clause-took : goal.returns-clause-took
returns-clause-took c = λ start lines.
    takes-count start.0.counts.items c.args.self.now.counts.items c.push.new.self.items lines c.args.line.now c.line_count-count.result
    c.in_ok-push.ensures.items (rw c.deref.ensures.value at c.line_count-count.ensures)
