use Rattle.std.proofs.Common.{◌≡◌, ◌<◌, true, false, refl, sym, ◌∙◌, subst, arith, length, drop}
use Rattle.life_table.specs.Taking.{AreFailed}
use Rattle.life_table.proofs.Grouping.{no_group}
use Rattle.life_table.proofs.Searching.{at_end, IsNone, none_more, consumed_completes, consumed_fails, untaken_fails, no_place, failed_more}
use Rattle.life_table.proofs.complete.+completes.Goals as goal
use Rattle.life_table.proofs.complete.+completes.Goals.{in-Some+else-completes, in_default}

pub returns-then-k-groups-clause-completes : goal.returns-then-k-groups-clause-completes
returns-then-k-groups-clause-completes t c = at_end c.args.vars.now c.args.groups.now c.args.states.now c.args.free c.args.k
    (omega (arith, c.if-k-groups.true)) c.requires.free c.requires.search.choosable

pub returns-then-failed-free-clause-completes : goal.returns-then-failed-free-clause-completes
returns-then-failed-free-clause-completes t c
    = (λ f. absurd (let z : ⊥ = cc in z), λ h. absurd (c.requires.failed c.args.free c.args.k c.if-failed-free.true h))

pub returns-then-completes-clause-completes : goal.returns-then-completes-clause-completes
returns-then-completes-clause-completes t c =
    let below : c.args.k < length c.args.groups.now = omega (arith, c.if-k-groups.false, c.requires.k) in (
      λ _. consumed_completes c.args.vars.now c.args.groups.now c.args.states.now c.args.free c.args.k no_group below c.requires.search.are_groups
          c.loop-place.place c.in-Some.rest c.in-Some.ensures.some
          (c.completes.ensures.completes.0 c.if-completes.true),
      λ _. refl,
    )

pub loop-place-preserved : goal.loop-place-preserved
loop-place-preserved t c =
    let below : c.args.k < length c.args.groups.now = omega (arith, c.if-k-groups.false, c.requires.k) in
    elim c.match-with_place.branch [
      | in-Some+else-completes w ↦ record {
        none = none_more c.args.vars.now (drop c.args.k c.args.groups.now) c.args.states.now c.args.free c.loop-place.place c.loop-place.invariant.none
            (λ _. consumed_fails c.args.vars.now c.args.groups.now c.args.states.now c.args.free c.args.k no_group below c.requires.search.are_groups
            c.loop-place.place w.in-Some.rest w.in-Some.ensures.some
            (λ h. let e : true ≡ false = sym (w.completes.ensures.completes.1 h) ∙ w.if-completes.false in absurd (let z : ⊥ = cc in z)));
        failed = subst (AreFailed c.args.vars.now c.args.groups.now c.args.states.now) (sym w.failed-is) w.completes.ensures.failed;
      }
      | in_default w ↦ record {
        none = none_more c.args.vars.now (drop c.args.k c.args.groups.now) c.args.states.now c.args.free c.loop-place.place c.loop-place.invariant.none
            (untaken_fails c.args.vars.now c.args.groups.now c.args.states.now c.args.free c.args.k no_group below c.requires.search.are_groups
            c.loop-place.place
            (w.in_default.ensures.none refl));
        failed = subst (AreFailed c.args.vars.now c.args.groups.now c.args.states.now) (sym w.failed-is) c.loop-place.invariant.failed;
      }
    ]

pub returns-clause-completes : goal.returns-clause-completes
returns-clause-completes t c =
    let below : c.args.k < length c.args.groups.now = omega (arith, c.if-k-groups.false, c.requires.k) in
    let all : c.loop-place.place ≡ length c.args.states.now = omega (arith, c.loop-place-test.false, c.loop-place.auto.place-end) in
    let none = no_place c.args.vars.now c.args.groups.now c.args.states.now c.args.free c.args.k no_group below c.requires.search.are_groups
    (subst (IsNone c.args.vars.now (drop c.args.k c.args.groups.now) c.args.states.now c.args.free) all c.loop-place.invariant.none) in (
      λ f. absurd (let z : ⊥ = cc in z),
      λ h. absurd (none h),
    )

pub returns-clause-failed : goal.returns-clause-failed
returns-clause-failed t c =
    let below : c.args.k < length c.args.groups.now = omega (arith, c.if-k-groups.false, c.requires.k) in
    let all : c.loop-place.place ≡ length c.args.states.now = omega (arith, c.loop-place-test.false, c.loop-place.auto.place-end) in
    let none = no_place c.args.vars.now c.args.groups.now c.args.states.now c.args.free c.args.k no_group below c.requires.search.are_groups
    (subst (IsNone c.args.vars.now (drop c.args.k c.args.groups.now) c.args.states.now c.args.free) all c.loop-place.invariant.none) in
    failed_more c.args.vars.now c.args.groups.now c.args.states.now c.loop-place.failed c.args.free c.args.k (omega arith) c.loop-place.invariant.failed none
