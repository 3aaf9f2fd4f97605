use Rattle.std.proofs.Common.{◌≡◌, true, false, ap, sym, ◌∙◌, subst, slice_index, slice_get, Some, IfSome}
use Rattle.std.proofs.lemmas.Nat.Bits.{shr_and_one}
use Rattle.std.proofs.lemmas.Option.{slice_get-get_or}
use Rattle.life_table.specs.Meaning.{HasState, has_state}
use Rattle.life_table.specs.declared.table.Var.{Var}
use Rattle.life_table.proofs.Searching.{takes_of}
use Rattle.life_table.proofs.complete.with_place.Goals as goal
use Rattle.life_table.proofs.complete.with_place.Goals.{else-free-place-eq1-via-then-free-place-eq1+else-has_state, else-free-place-eq1-via-else-free-place-eq1}

pub returns-else-free-place-eq1-clause-none : goal.returns-else-free-place-eq1-clause-none
returns-else-free-place-eq1-clause-none c = λ e set can. elim c.else-free-place-eq1.branch [
  | else-free-place-eq1-via-then-free-place-eq1+else-has_state w ↦
      let found : slice_get c.args.vars.now c.args.group.variable ≡ Some w.index-vars-group.result = slice_get-get_or c.args.vars.now c.args.group.variable
      w.index-vars-group.result c.requires.variable ∙ ap Some (sym w.index-vars-group.is) in
      let yes : has_state w.index-vars-group.result (slice_index c.args.states.now c.args.place)
      ≡ true = subst (λ o. IfSome o (λ (var : Var). HasState var (slice_index c.args.states.now c.args.place))) found can in
      let clash : true ≡ false = sym yes ∙ sym w.has_state.ensures ∙ w.if-has_state.false in
      absurd (let z : ⊥ = cc in z)
  | else-free-place-eq1-via-else-free-place-eq1 w ↦ absurd (w.if-free-place-eq1.false (shr_and_one c.args.free c.args.place ∙ set))
]

pub returns-then-has_state-clause-some : goal.returns-then-has_state-clause-some
returns-then-has_state-clause-some c =
    let found : slice_get c.args.vars.now c.args.group.variable ≡ Some c.index-vars-group.result = slice_get-get_or c.args.vars.now c.args.group.variable
    c.index-vars-group.result c.requires.variable ∙ ap Some (sym c.index-vars-group.is) in
    takes_of c.args.vars.now c.args.group c.args.states.now c.args.place c.args.free (sym (shr_and_one c.args.free c.args.place) ∙ c.if-free-place-eq1.true)
    (subst (λ o. IfSome o (λ (var : Var). HasState var (slice_index c.args.states.now c.args.place))) (sym found)
    (sym c.has_state.ensures ∙ c.if-has_state.true))
    c.without.result c.without.ensures.less c.without.ensures.counts
