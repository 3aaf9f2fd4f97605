use Rattle.std.proofs.Common.{◌≡◌, true, inr, subst, arith, w64, to_z, of_z, pos, ◌-ℤ◌, rules}
use Rattle.std.proofs.lemmas.Int.{ints}
use Rattle.life_next.specs.Generation.{one_after}
use Rattle.life_sweep.specs.Rows.{InRows, StartsFrom, SomeStartsAt, is_blank_column}
use Rattle.life_sweep.proofs.window.Window.next_place.Goals as goal

pub returns-clause-place : goal.returns-clause-place
returns-clause-place c =
    let w = c.args.self.now in
    let next = to_z w64 (of_z w64 (to_z w64 (of_z w64 c.in-Some.first) -ℤ pos 1)) in
    let e : c.in-Some.first ≡ one_after next = omega (arith, ints, c.in-Some.ensures.least, c.in-Some.ensures.most) in
    let middle : is_blank_column w.middle ≡ true = search (c.is_blank.ensures, c.if-not-is_blank.false, rules) in
    let east : is_blank_column w.east ≡ true = search (c.is_blank-else-not-is_blank.ensures, c.if-not-is_blank-2.false, rules) in
    inr (middle, east, subst (λ z. InRows (StartsFrom z) w.rows) e c.in-Some.ensures.from, subst (λ z. SomeStartsAt z w.rows) e c.in-Some.ensures.at)
