use Rattle.std.proofs.Common.{◌≡◌, ◌-◌, ◌∙◌, refl, arith}
use Rattle.life_quad.proofs.KeepingLemmas.{adds-then, keeps-then}
use Rattle.life_rows.proofs.NeededLemmas.{more-needed}
use Rattle.life_rows.proofs.ThreeRowsLemmas.{rows-same, rows-skip}
use Rattle.life_rows.proofs.three_rows.ThreeRows.go_to_row.Goals as goal
use Rattle.life_rows.proofs.three_rows.ThreeRows.go_to_row.Goals.{then-loop-self-test+else-not-is_blank, else-loop-self-test}

pub returns-clause-rows : goal.returns-clause-rows
returns-clause-rows g c is =
    let K = g.S.Squares.knows c.loop-self.squares in
    let C = g.S.Squares.content c.loop-self.squares in
    let s = c.loop-self.self in
    let i = c.loop-self.invariant in
    elim c.loop-self-test.branch [
      | then-loop-self-test+else-not-is_blank w ↦
          (let e = w.if-not-is_blank.ensures in
          rows-skip K C s.rule s.builder s.north.items s.here.items s.south.items s.north_row s.left s.log.runs i.rows (e.north refl) (e.here refl)
          (e.south refl) (c.args.row - 2) (let within = i.within in omega (arith, within)))
      | else-loop-self-test w ↦
          (let same : c.args.row - 2 ≡ s.north_row = (let within = i.within in let over = w.loop-self-test.false in omega (arith, within, over)) in
          rows-same K C refl refl refl refl refl same refl refl i.rows)
    ]

pub loop-self-preserved : goal.loop-self-preserved
loop-self-preserved g c =
    let i = c.loop-self.invariant in
    let e = c.if-not-end_row.ensures in
    let next = e.row refl in
    let more = c.loop-self-test.true in
    record {
      keeps = keeps-then i.keeps e.keeps;
      adds = adds-then _ i.adds e.adds (λ P s. s) (λ P. more-needed (omega (arith, more)) i.rule i.runs);
      rows = e.rows refl;
      within = omega (arith, next, more);
      rule = e.rule refl ∙ i.rule;
      runs = e.runs refl ∙ i.runs;
    }

pub returns-then-not-end_row-clause-adds : goal.returns-then-not-end_row-clause-adds
returns-then-not-end_row-clause-adds g c =
    let i = c.loop-self.invariant in
    let more = c.loop-self-test.true in
    adds-then _ i.adds c.end_row.ensures.adds (λ P s. s) (λ P. more-needed (omega (arith, more)) i.rule i.runs)
