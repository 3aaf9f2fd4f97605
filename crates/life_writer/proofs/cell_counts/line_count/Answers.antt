use Rattle.std.proofs.Common.{◌≡◌, ◌+◌, ap, arith, sym, ◌∙◌}
use Rattle.life_mc.specs.declared.line.Line.TheVariants.{Quad}
use Rattle.life_writer.specs.Counting.{line_count}
use Rattle.life_writer.proofs.cell_counts.line_count.Goals as goal

pub returns-in-Quad-eq1-default-default-default-default : goal.returns-in-Quad-eq1-default-default-default-default
returns-in-Quad-eq1-default-default-default-default c = λ _.
    let counts = c.args.counts.now in
    let q = c.in-Quad-eq1-default-default-default-default in
    let nw = c.cell_count.ensures.count counts in
    let ne = c.cell_count-in-Quad-eq1-default-default-default-default.ensures.count counts in
    let sw = c.cell_count-in-Quad-eq1-default-default-default-default-2.ensures.count counts in
    let se = c.cell_count-in-Quad-eq1-default-default-default-default-3.ensures.count counts in
    let one : q.level ≡ 1 = grind (arith, q.level-test) in
    (λ i. nw i + ne i + sw i + se i) ∙ sym (ap (λ level. line_count counts (Quad level q.nw q.ne q.sw q.se)) one) ∙ sym (ap (line_count counts) q.is)
