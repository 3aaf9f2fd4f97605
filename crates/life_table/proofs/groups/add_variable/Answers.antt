use Rattle.std.proofs.Common.{◌≡◌, ◌≢◌, ℕ, ◌<◌, ap, sym, ◌∙◌, subst, inl, inr, arith, take, get_or, length, get_or-take, length-take-le}
use Rattle.std.proofs.lemmas.Bool.Decides.{eqb_tells}
use Rattle.life_table.specs.Taking.{add_to}
use Rattle.life_table.specs.declared.groups.Group.{Group}
use Rattle.life_table.proofs.Grouping.{no_group, added_at, added_end}
use Rattle.life_table.proofs.groups.add_variable.Goals as goal

pub overflow_add-groups : goal.overflow_add-groups
overflow_add-groups c =
    let size : length (take c.args.count c.args.groups.now) ≡ c.args.count = length-take-le c.args.count c.args.groups.now (omega arith) in
    let few : (get_or (take c.args.count c.args.groups.now) c.loop-k.k no_group).times < 9 = c.requires.few c.loop-k.k no_group
    (omega (arith, size, c.loop-k-test.true)) in
    let at = ap (λ (g : Group). g.times) (get_or-take c.args.count c.args.groups.now c.loop-k.k no_group c.loop-k-test.true) in
    let same = ap (λ (gs : _). (get_or gs c.loop-k.k no_group).times) c.loop-k.invariant.same in
    omega (arith, few, at, same)

pub returns-then-groups-k-clause-added : goal.returns-then-groups-k-clause-added
returns-then-groups-k-clause-added c =
    added_at c.args.number c.loop-k.groups c.args.count c.loop-k.k c.loop-k-test.true (omega (arith, c.told-groups, ap length c.loop-k.invariant.same))
    c.loop-k.invariant.other c.if-groups-k.true
    ∙ ap (λ gs. add_to c.args.number (take c.args.count gs)) c.loop-k.invariant.same

pub loop-k-preserved : goal.loop-k-preserved
loop-k-preserved c = record {
  same = c.loop-k.invariant.same;
  other = λ (j : ℕ) (below : _). elim (eqb_tells j c.loop-k.k) [
    | inl here ↦ subst (λ n. (get_or c.loop-k.groups n no_group).variable ≢ c.args.number) (sym here.1) c.if-groups-k.false
    | inr other ↦ c.loop-k.invariant.other j (omega (arith, below, other.1))
  ];
}

pub returns-clause-added : goal.returns-clause-added
returns-clause-added c =
    added_end c.args.number c.loop-k.groups c.args.count (omega (arith, c.told-groups, ap length c.loop-k.invariant.same))
    (λ j below. c.loop-k.invariant.other j (omega (arith, below, c.loop-k-test.false)))
    ∙ ap (λ gs. add_to c.args.number (take c.args.count gs)) c.loop-k.invariant.same
