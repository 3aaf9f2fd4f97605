use Rattle.std.proofs.Common.{arith, ◌∙◌}
use Rattle.life_writer.proofs.CountingFacts.{lines-counted, cells-counted}
use Rattle.life_writer.proofs.cell_counts.count_all.Goals as goal

pub returns-clause-lines : goal.returns-clause-lines
returns-clause-lines g c =
    let counts = c.walk_pattern.new.lines.counts in
    omega (
      arith,
      c.len.ensures,
      counts.ok,
      lines-counted c.args.pattern.now.rule _ (g.met.S.Squares.full _ _ c.requires.known) c.requires.states (g.met.S.Squares.low _ _ c.requires.known)
          _ counts.items c.new.ensures.items c.in_ok-walk_pattern.ensures.took,
    )

pub returns-clause-cells : goal.returns-clause-cells
returns-clause-cells g c =
    c.last_count.ensures
    ∙ cells-counted c.args.pattern.now.rule _ (g.met.S.Squares.full _ _ c.requires.known) c.requires.states (g.met.S.Squares.low _ _ c.requires.known)
    c.requires.level c.deref.ensures.value c.new.ensures.items c.in_ok-walk_pattern.ensures.took
