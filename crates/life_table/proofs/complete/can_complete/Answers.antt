use Rattle.std.proofs.Common.{◌≡◌, sym, ◌∙◌, arith, length, eqb-true}
use Rattle.life_table.proofs.Searching.{at_end, none_failed}
use Rattle.life_table.proofs.complete.can_complete.Goals as goal

pub returns-then-is_empty : goal.returns-then-is_empty
returns-then-is_empty c =
    let none : length c.args.groups.now ≡ 0 = eqb-true (length c.args.groups.now) 0 (sym c.is_empty.ensures ∙ c.if-is_empty.true) in
    at_end c.args.vars.now c.args.groups.now c.args.states.now c.args.free 0 (omega (arith, none)) c.requires.free c.requires.search.choosable

pub completes-requires-clause-failed : goal.completes-requires-clause-failed
completes-requires-clause-failed c = none_failed c.args.vars.now c.args.groups.now c.args.states.now 256
