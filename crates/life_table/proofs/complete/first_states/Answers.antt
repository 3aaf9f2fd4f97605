use Rattle.std.proofs.Common.{◌≡◌, ◌+◌, true, false, refl, sym, ◌∙◌, subst, arith, length}
use Rattle.life_table.specs.Found.{IsFoundOf}
use Rattle.life_table.specs.Taking.{AreFailed}
use Rattle.life_table.proofs.Grouping.{no_group}
use Rattle.life_table.proofs.Searching.{none_failed, IsFoundBy, tell_more, tell_skip, tell_two, tell_all, consumed_with, consumed_fails, untaken_fails}
use Rattle.life_table.proofs.complete.first_states.Goals as goal
use Rattle.life_table.proofs.complete.first_states.Goals.{in-Some+then-completes+in_default-found, in-Some+else-completes, in_default}

pub loop-place-init : goal.loop-place-init
loop-place-init c = record {
  tells = λ s f. absurd (omega (arith, f.below));
  failed = none_failed c.args.vars.now c.args.groups.now c.args.states.now 256;
}

pub returns-in-Two : goal.returns-in-Two
returns-in-Two c =
    tell_two c.args.vars.now c.args.groups.now c.args.states.now c.args.free (c.loop-place.place + 1) c.with_state-found.result c.in-Two.is
    (tell_more c.args.vars.now c.args.groups.now c.args.states.now c.args.free c.loop-place.place c.loop-place.found c.with_state-found.result
    c.loop-place.invariant.tells c.in-Some.ensures.some.is_free
    (consumed_with c.args.vars.now c.args.groups.now c.args.states.now c.args.free 0 no_group c.requires.some c.requires.search.are_groups c.loop-place.place
    c.in-Some.rest c.in-Some.ensures.some
    (c.completes.ensures.completes.0 c.if-completes.true))
    c.with_state-found.ensures)

pub loop-place-preserved : goal.loop-place-preserved
loop-place-preserved c =
    elim c.match-with_place.branch [
      | in-Some+then-completes+in_default-found w ↦ record {
        tells = subst (IsFoundOf (IsFoundBy c.args.vars.now c.args.groups.now c.args.states.now c.args.free (c.loop-place.place + 1))) (sym w.found-is)
            (tell_more c.args.vars.now c.args.groups.now c.args.states.now c.args.free c.loop-place.place c.loop-place.found w.with_state-found.result
            c.loop-place.invariant.tells w.in-Some.ensures.some.is_free
            (consumed_with c.args.vars.now c.args.groups.now c.args.states.now c.args.free 0 no_group c.requires.some c.requires.search.are_groups
            c.loop-place.place w.in-Some.rest w.in-Some.ensures.some
            (w.completes.ensures.completes.0 w.if-completes.true))
            w.with_state-found.ensures);
        failed = subst (AreFailed c.args.vars.now c.args.groups.now c.args.states.now) (sym w.failed-is) w.completes.ensures.failed;
      }
      | in-Some+else-completes w ↦ record {
        tells = subst (IsFoundOf (IsFoundBy c.args.vars.now c.args.groups.now c.args.states.now c.args.free (c.loop-place.place + 1))) (sym w.found-is)
            (tell_skip c.args.vars.now c.args.groups.now c.args.states.now c.args.free c.loop-place.place c.loop-place.found c.loop-place.invariant.tells
            (λ _. consumed_fails c.args.vars.now c.args.groups.now c.args.states.now c.args.free 0 no_group c.requires.some c.requires.search.are_groups
            c.loop-place.place w.in-Some.rest w.in-Some.ensures.some
            (λ h. let e : true ≡ false = sym (w.completes.ensures.completes.1 h) ∙ w.if-completes.false in absurd (let z : ⊥ = cc in z))));
        failed = subst (AreFailed c.args.vars.now c.args.groups.now c.args.states.now) (sym w.failed-is) w.completes.ensures.failed;
      }
      | in_default w ↦ record {
        tells = subst (IsFoundOf (IsFoundBy c.args.vars.now c.args.groups.now c.args.states.now c.args.free (c.loop-place.place + 1))) (sym w.found-is)
            (tell_skip c.args.vars.now c.args.groups.now c.args.states.now c.args.free c.loop-place.place c.loop-place.found c.loop-place.invariant.tells
            (untaken_fails c.args.vars.now c.args.groups.now c.args.states.now c.args.free 0 no_group c.requires.some c.requires.search.are_groups
            c.loop-place.place (w.in_default.ensures.none refl)));
        failed = subst (AreFailed c.args.vars.now c.args.groups.now c.args.states.now) (sym w.failed-is) c.loop-place.invariant.failed;
      }
    ]

pub returns : goal.returns
returns c =
    let all : c.loop-place.place ≡ length c.args.states.now = omega (arith, c.loop-place-test.false, c.loop-place.auto.place-end) in
    tell_all c.args.vars.now c.args.groups.now c.args.states.now c.args.free c.requires.some c.requires.search.are_groups c.loop-place.found
    (subst (λ n. IsFoundOf (IsFoundBy c.args.vars.now c.args.groups.now c.args.states.now c.args.free n) c.loop-place.found) all c.loop-place.invariant.tells)
