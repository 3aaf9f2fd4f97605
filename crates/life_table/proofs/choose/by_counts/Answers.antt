use Rattle.std.proofs.Common.{refl, sym, ◌∙◌, take, arith}
use Rattle.std.proofs.lemmas.Grind.{common_steps}
use Rattle.life_table.proofs.DecidingAt.{takes_all, too_many_at, search_at, completes_at, gives_settled_at, gives_open_at}
use Rattle.life_table.proofs.choose.by_counts.Goals as goal
use Rattle.life_base.proofs.Basics.{true_false}

pub returns-then-not-may_take_all : goal.returns-then-not-may_take_all
returns-then-not-may_take_all c = λ s g.
    let reported = takes_all c.args.site.now c.args.line.now c.requires.site c.requires.line c.as_slice-inputs.result.now c.as_slice-inputs.ensures s g in
    true_false c.may_take_all.result (c.may_take_all.ensures reported.0 reported.1) c.if-not-may_take_all.true

pub returns-in_default : goal.returns-in_default
returns-in_default c =
    let few = c.in_default.ensures.none refl in
    too_many_at c.args.site.now c.args.line.now c.requires.site c.requires.line c.as_slice-inputs.result.now c.as_slice-inputs.ensures few.0 few.1

pub can_complete-requires-clause-search : goal.can_complete-requires-clause-search
can_complete-requires-clause-search c =
    search_at c.args.site.now c.args.line.now c.requires.site c.requires.line c.as_slice-inputs.result.now c.as_slice-inputs.ensures
    (take c.groups_of-count.result.1 c.groups_of-count.result.0) c.groups_of-count.ensures.grouped
    (grind (arith, common_steps, c.groups_of-count.ensures.count))

pub first_states-requires-clause-search : goal.first_states-requires-clause-search
first_states-requires-clause-search c =
    search_at c.args.site.now c.args.line.now c.requires.site c.requires.line c.as_slice-inputs.result.now c.as_slice-inputs.ensures
    (take c.groups_of-count.result.1 c.groups_of-count.result.0) c.groups_of-count.ensures.grouped
    (grind (arith, common_steps, c.groups_of-count.ensures.count))

pub returns-then-can_complete : goal.returns-then-can_complete
returns-then-can_complete c =
    gives_settled_at c.args.site.now c.args.line.now c.requires.site c.requires.line c.as_slice-inputs.result.now c.as_slice-inputs.ensures
    (take c.groups_of-count.result.1 c.groups_of-count.result.0) c.groups_of-count.ensures.grouped c.in-Some.free c.in-Some.ensures.counts
    (sym c.can_be.ensures.exact ∙ c.if-not-can_be.false) c.in-Some-settled_state.s (sym c.settled_state.ensures ∙ c.in-Some-settled_state.is)
    (c.can_complete.ensures.0 c.if-can_complete.true)

pub returns-else-can_complete : goal.returns-else-can_complete
returns-else-can_complete c = λ s g.
    true_false c.can_complete.result (c.can_complete.ensures.1
    (completes_at c.args.site.now c.args.line.now c.requires.site c.requires.line c.as_slice-inputs.result.now c.as_slice-inputs.ensures
    (take c.groups_of-count.result.1 c.groups_of-count.result.0) c.groups_of-count.ensures.grouped c.in-Some.free c.in-Some.ensures.counts s g))
    c.if-can_complete.false

pub returns-in-None : goal.returns-in-None
returns-in-None c =
    gives_open_at c.args.site.now c.args.line.now c.requires.site c.requires.line c.as_slice-inputs.result.now c.as_slice-inputs.ensures
    (take c.groups_of-count.result.1 c.groups_of-count.result.0) c.groups_of-count.ensures.grouped c.in-Some.free c.in-Some.ensures.counts
    (sym c.can_be.ensures.exact ∙ c.if-not-can_be.false) (sym c.settled_state.ensures ∙ c.in-None.is) c.first_states.result c.first_states.ensures
