use Rattle.std.proofs.Common.{◌∙◌, ap, sym}
use Rattle.life_table.specs.Around.{states_of_neighbours}
use Rattle.life_table.specs.declared.table.Table.{Table}
use Rattle.life_table.specs.declared.table.Neighborhood.TheVariants.{VonNeumann, Moore}
use Rattle.life_sweep.proofs.LawLemmas.{decided, whole-list}
use Rattle.life_sweep.proofs.law.decide.Goals.{in-VonNeumann, in-Moore}
use Rattle.life_sweep.proofs.law.decide.Goals as goal

pub returns-clause-next : goal.returns-clause-next
returns-clause-next c =
    let t = c.args.index.now in
    let v = c.args.around.now in
    let same = ap (λ (z : Table). z.neighborhood) (sym c.table.ensures) in
    elim c.match-table.branch [
      | in-VonNeumann w ↦ decided t v (states_of_neighbours c.match-table.neighbours) VonNeumann c.next.result (same ∙ w.in-VonNeumann.is)
          (ap states_of_neighbours w.neighbours-is)
          c.next.ensures
      | in-Moore w ↦ decided t v (states_of_neighbours c.match-table.neighbours) Moore c.next.result (same ∙ w.in-Moore.is)
          (ap states_of_neighbours w.neighbours-is ∙ whole-list v c.told-around) c.next.ensures
    ]
