use Rattle.std.proofs.Common.{◌≡◌, ℕ, ◌+◌, ◌-◌, ◌^◌, ap, sym, ◌∙◌, subst, arith}
use Rattle.std.proofs.lemmas.Nat.Bits.{shr_and_one}
use Rattle.life_table.specs.Taking.{of_state, free_count}
use Rattle.life_table.proofs.Free.{power, bit_below, one_less, not_at_place}
use Rattle.life_table.proofs.places.without_one.Goals as goal

pub overflow_sub-result : goal.overflow_sub-result
overflow_sub-result c = omega (
  arith,
  power c.loop-place.place (omega (arith, c.loop-place-test.true, c.requires)),
  bit_below c.loop-place.place c.args.free (sym (shr_and_one c.args.free c.loop-place.place) ∙ c.if-free-place-eq1.true),
)

pub returns-then-free-place-eq1-clause-counts : goal.returns-then-free-place-eq1-clause-counts
returns-then-free-place-eq1-clause-counts c = λ t.
    subst (λ (n : ℕ). free_count t c.args.free c.args.states.now ≡ of_state t c.args.s 1 + free_count t (c.args.free - n) c.args.states.now)
    (sym (power c.loop-place.place (omega (arith, c.loop-place-test.true, c.requires))))
    (one_less t c.loop-place.place c.args.free c.args.states.now c.loop-place-test.true
    (sym (shr_and_one c.args.free c.loop-place.place) ∙ c.if-free-place-eq1.true)
    ∙ ap (λ (s : ℕ). of_state t s 1 + free_count t (c.args.free - 2 ^ c.loop-place.place) c.args.states.now) c.if-state-s.true)

pub returns-clause-none : goal.returns-clause-none
returns-clause-none c = λ e. not_at_place c.args.s c.args.free c.args.states.now
    (λ (k : ℕ) below. c.loop-place.invariant k (omega (arith, below, c.loop-place-test.false)))
