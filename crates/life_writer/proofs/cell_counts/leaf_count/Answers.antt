use Rattle.std.proofs.Common.{ap, sym, ◌∙◌}
use Rattle.std.specs.Int.Count.{ones}
use Rattle.life_writer.proofs.CountingFacts.{leaf-count}
use Rattle.life_writer.proofs.cell_counts.leaf_count.Goals as goal

pub returns : goal.returns
returns c = c.from.ensures ∙ ap ones c.from_be_bytes.ensures ∙ sym (leaf-count c.args.rows.now c.fits-rows)
