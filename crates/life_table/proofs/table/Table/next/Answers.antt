use Rattle.std.proofs.Common.{◌≡◌, ◌+◌, length, refl, ap, ◌∙◌, subst, arith}
use Rattle.life_table.specs.Around.{states_of_neighbours}
use Rattle.life_table.specs.Meaning.{Becomes, Ambiguous}
use Rattle.life_table.specs.Seen.{IsSeen}
use Rattle.life_table.specs.Valid.{neighbour_count}
use Rattle.life_table.proofs.Choosing.{choosable}
use Rattle.life_table.proofs.Deciding.{rest_of}
use Rattle.life_table.proofs.Images.{four_or_eight}
use Rattle.life_table.proofs.Answering.{answer_here, silent_more, silent_all}
use Rattle.life_table.proofs.table.Table.next.Goals as goal

pub given_by-requires-clause-site : goal.given_by-requires-clause-site
given_by-requires-clause-site c =
    let few = four_or_eight c.args.self.now.neighborhood in
    let size : length c.as_slice-cells.result.now ≡ neighbour_count c.args.self.now.neighborhood + 1 =
    ap length c.as_slice-cells.ensures ∙ c.requires.neighbours in
    record {
      some = omega (arith, few.0, size);
      space = omega (arith, few.1, size);
      choosable = rw c.as_slice-vars.ensures (choosable c.args.self.now.n_states c.args.self.now.vars c.args.self.now.sound.variables);
      seen = subst (λ others. IsSeen c.as_slice-vars.result.now others c.new-seen.result) (rest_of c.as_slice-cells.result.now) c.new-seen.ensures;
    }

pub returns-in-One : goal.returns-in-One
returns-in-One c = answer_here c.args.self.now.symmetry c.args.self.now.vars c.as_slice-vars.result.now (states_of_neighbours c.args.around.now)
    c.as_slice-cells.result.now
    c.as_slice-vars.ensures c.as_slice-cells.ensures
    c.args.self.now.lines c.as_slice-line-items.result.now c.as_slice-line-items.ensures c.loop-line.line-index c.line-item.result c.loop-line-test.true
    c.line-item.is c.loop-line.invariant (Becomes c.in-One.state) c.in-One.ensures

pub returns-in-Two : goal.returns-in-Two
returns-in-Two c =
    let h = c.in-Two.ensures in (
      refl,
      answer_here c.args.self.now.symmetry c.args.self.now.vars c.as_slice-vars.result.now (states_of_neighbours c.args.around.now) c.as_slice-cells.result.now
          c.as_slice-vars.ensures c.as_slice-cells.ensures
          c.args.self.now.lines c.as_slice-line-items.result.now c.as_slice-line-items.ensures c.loop-line.line-index c.line-item.result c.loop-line-test.true
          c.line-item.is c.loop-line.invariant (Ambiguous c.line-item.result.line) (refl, h.0, h.1, h.2, h.3, h.4),
    )

pub loop-line-preserved : goal.loop-line-preserved
loop-line-preserved c = silent_more c.args.self.now.symmetry c.args.self.now.vars c.as_slice-vars.result.now (states_of_neighbours c.args.around.now)
    c.as_slice-cells.result.now c.as_slice-vars.ensures c.as_slice-cells.ensures
    c.as_slice-line-items.result.now c.loop-line.line-index c.line-item.result c.loop-line-test.true c.line-item.is c.loop-line.invariant c.in-Nothing.ensures

pub returns : goal.returns
returns c = rw c.as_slice-cells.ensures
    (silent_all c.args.self.now.symmetry c.args.self.now.vars c.args.self.now.vars (states_of_neighbours c.args.around.now)
    (states_of_neighbours c.args.around.now) refl refl
    c.args.self.now.lines c.as_slice-line-items.result.now c.as_slice-line-items.ensures c.loop-line.line-index c.loop-line-test.false c.loop-line.invariant)
