use Rattle.std.proofs.Common.{◌≡◌, ◌<◌, length, ap, sym, ◌∙◌, subst, arith, IsTrue, slice_get, IfSome, Some}
use Rattle.std.proofs.lemmas.Option.{slice_get-get_or}
use Rattle.life_table.specs.Meaning.{HasState}
use Rattle.life_table.specs.declared.table.Var.{Var}
use Rattle.life_table.specs.declared.table.Entry.TheVariants as entries
use Rattle.life_table.proofs.Choices.{new_input}
use Rattle.life_table.proofs.choose.allows.Goals as goal

pub returns-after-loop-i : goal.returns-after-loop-i
returns-after-loop-i c =
    let there : c.in-Var.number < length c.args.vars.now = (c.requires.entries (length c.args.given.now) (entries.Fixed 0) c.requires.short).variable
    c.in-Var.number c.in-Var.is in
    let law = new_input c.args.vars.now c.args.inputs.now c.args.given.now c.requires.short c.requires.consistent c.in-Var.number c.args.s (entries.Fixed 0)
    c.in-Var.is there (λ k d below. c.loop-i.invariant k d (omega arith)) in
    let found : slice_get c.args.vars.now c.in-Var.number ≡ Some c.index-vars-number.result = slice_get-get_or c.args.vars.now c.in-Var.number
    c.index-vars-number.result there ∙ ap Some (sym c.index-vars-number.is) in (
      λ t. law.0 (subst (λ o. IfSome o (λ (var : Var). HasState var c.args.s)) (sym found) (subst IsTrue c.has_state.ensures t)),
      λ h. subst IsTrue (sym c.has_state.ensures) (subst (λ o. IfSome o (λ (var : Var). HasState var c.args.s)) found (law.1 h)),
    )
