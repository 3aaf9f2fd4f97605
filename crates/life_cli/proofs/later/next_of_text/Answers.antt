use Rattle.std.proofs.Common.{◌∙◌, refl}
use Rattle.life_base.specs.declared.cell.TheConstants.{MAX_LEVEL}
use Rattle.life_step.specs.Refusals.{TableRefusal}
use Rattle.life_cli.proofs.WorkLemmas.{refused_for}
use Rattle.life_cli.proofs.later.next_of_text.Goals as goal

pub returns-clause-err : goal.returns-clause-err
returns-clause-err c = (
  refl,
  refl,
  refused_for (TableRefusal MAX_LEVEL c.args.table.now) c.args.text.now c.step_table.new.store _
      (c.step_table.ensures.keeps.limit ∙ c.seeded-store.ensures.most) c.in-Err.ensures.refused,
)
