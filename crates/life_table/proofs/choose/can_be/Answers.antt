use Rattle.std.proofs.Common.{◌≡◌, ap, sym, ◌∙◌, subst, eq-eqb, IsTrue, slice_get, IfSome, Some}
use Rattle.std.proofs.lemmas.Option.{slice_get-get_or}
use Rattle.life_table.specs.Meaning.{HasState, state_of}
use Rattle.life_table.specs.declared.table.Var.{Var}
use Rattle.life_table.proofs.choose.can_be.Goals as goal

pub returns-in-Fixed-clause-needed : goal.returns-in-Fixed-clause-needed
returns-in-Fixed-clause-needed c = λ choice is same.
    let here : c.in-Fixed.fixed ≡ c.args.s = ap (state_of choice) (sym c.in-Fixed.is) ∙ same in
    eq-eqb c.in-Fixed.fixed c.args.s here

pub returns-in-Var-clause-needed : goal.returns-in-Var-clause-needed
returns-in-Var-clause-needed c = λ choice is same.
    let there = c.requires.entry.variable c.in-Var.number c.in-Var.is in
    let here : choice c.in-Var.number ≡ c.args.s = ap (state_of choice) (sym c.in-Var.is) ∙ same in
    let found : slice_get c.args.vars.now c.in-Var.number ≡ Some c.index-vars-number.result = slice_get-get_or c.args.vars.now c.in-Var.number
    c.index-vars-number.result there ∙ ap Some (sym c.index-vars-number.is) in
    let has : HasState c.index-vars-number.result (choice c.in-Var.number) = subst (λ o. IfSome o (λ (var : Var). HasState var (choice c.in-Var.number))) found
    (is c.in-Var.number there) in
    subst IsTrue (sym c.has_state.ensures) (subst (HasState c.index-vars-number.result) here has)
