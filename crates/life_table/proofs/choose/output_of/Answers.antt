use Rattle.std.proofs.Common.{◌≢◌, ℕ, ◌<◌, length, subst, arith, get_or}
use Rattle.life_table.specs.declared.table.Entry.{Entry}
use Rattle.life_table.specs.declared.table.Entry.TheVariants as entries
use Rattle.life_table.proofs.Choices.{not_found}
use Rattle.life_table.proofs.choose.output_of.Goals as goal

pub returns-after-loop-i : goal.returns-after-loop-i
returns-after-loop-i c = λ vars s g.
    absurd (not_found c.in-Var.number c.args.line.now.inputs
    (subst (λ es. (k : ℕ) (d : Entry) → k < length es → get_or es k d ≢ entries.Var c.in-Var.number) c.as_slice-entry-items.ensures
    (λ k d below. c.loop-i.invariant k d (omega arith))) (c.requires.bound c.in-Var.number c.in-Var.is))
