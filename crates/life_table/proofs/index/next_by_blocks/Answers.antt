use Rattle.std.proofs.Common.{◌≡◌, ◌+◌, List, length, drop, refl, ap, sym, ◌∙◌, subst, slice_index, arith}
use Rattle.life_table.specs.Around.{states_of_neighbours}
use Rattle.life_table.specs.Index.{AreBlocks}
use Rattle.life_table.specs.Meaning.{Becomes, Decides, DecidesAs}
use Rattle.life_table.specs.Seen.{IsSeen}
use Rattle.life_table.specs.Valid.{neighbour_count}
use Rattle.life_table.proofs.Answering.{silent_all}
use Rattle.life_table.proofs.Choosing.{choosable}
use Rattle.life_table.proofs.Deciding.{rest_of}
use Rattle.life_table.proofs.Images.{four_or_eight}
use Rattle.life_table.proofs.Indexing.{through}
use Rattle.life_table.specs.declared.table.Transition.{Transition}
use Rattle.life_table.specs.declared.table.Var.{Var}
use Rattle.life_table.proofs.index.next_by_blocks.Goals as goal

pub answer_by_blocks-requires-clause-site : goal.answer_by_blocks-requires-clause-site
answer_by_blocks-requires-clause-site c =
    let table = c.args.table.now in
    let few = four_or_eight table.neighborhood in
    let size : length c.as_slice-cells.result.now ≡ neighbour_count table.neighborhood + 1 = ap length c.as_slice-cells.ensures ∙ c.requires.neighbours in
    record {
      some = omega (arith, few.0, size);
      space = omega (arith, few.1, size);
      choosable = rw c.as_slice-vars.ensures (choosable table.n_states table.vars table.sound.variables);
      seen = subst (λ others. IsSeen c.as_slice-vars.result.now others c.of_lines-seen.result) (rest_of c.as_slice-cells.result.now) c.of_lines-seen.ensures;
    }

pub answer_by_blocks-requires-clause-blocks : goal.answer_by_blocks-requires-clause-blocks
answer_by_blocks-requires-clause-blocks c =
    subst (λ (v : List Var). AreBlocks v c.as_slice-lines.result.now c.args.blocks.now) (sym c.as_slice-vars.ensures)
    (subst (λ (l : List Transition). AreBlocks c.args.table.now.vars l c.args.blocks.now) (sym c.as_slice-lines.ensures) c.requires.blocks)

pub returns-in-Some : goal.returns-in-Some
returns-in-Some c =
    let table = c.args.table.now in
    through
    (λ vars cells lines. DecidesAs table.symmetry vars (slice_index cells 0) (drop 1 cells) lines c.in-Some.answer)
    table.vars c.as_slice-vars.result.now (states_of_neighbours c.args.around.now) c.as_slice-cells.result.now table.lines c.as_slice-lines.result.now
    c.as_slice-vars.ensures c.as_slice-cells.ensures c.as_slice-lines.ensures c.in-Some.ensures

pub returns-in-None : goal.returns-in-None
returns-in-None c =
    let table = c.args.table.now in
    let vars = c.as_slice-vars.result.now in
    let cells = c.as_slice-cells.result.now in
    let lines = c.as_slice-lines.result.now in
    through (λ v w l. Decides table.symmetry v (slice_index w 0) (drop 1 w) l (Becomes (slice_index cells 0)))
    table.vars vars (states_of_neighbours c.args.around.now) cells table.lines lines c.as_slice-vars.ensures c.as_slice-cells.ensures c.as_slice-lines.ensures
    (silent_all table.symmetry vars vars cells cells refl refl lines lines refl (length lines) (omega arith) c.in-None.ensures)
