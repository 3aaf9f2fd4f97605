use Rattle.std.proofs.Common.{◌≡◌, ◌⊎◌, true, sym, subst, arith, w64, to_z, of_z, pos, ◌+ℤ◌, ◌<ℤ◌, ◌∙◌, ap}
use Rattle.std.proofs.lemmas.Int.{ints}
use Rattle.life_next.specs.Generation.{one_after}
use Rattle.life_sweep.specs.Rows.{IsNextPlace, AreRows, SomeStartsAt, is_blank_column, far, column_at}
use Rattle.life_sweep.proofs.WindowLemmas.{ready, ready-rows, goes-east, goes-on, fewer-steps, middle-end}
use Rattle.life_sweep.proofs.window.Window.advance.Goals as goal

pub returns-clause-sound : goal.returns-clause-sound
returns-clause-sound c =
    let w = c.args.self.now in
    let x = to_z w64 (of_z w64 c.in-Some.next) in
    let same : c.in-Some.next ≡ x = omega (arith, ints, c.in-Some.ensures.within.0, c.in-Some.ensures.within.1) in
    let place : IsNextPlace w x = subst (λ z. IsNextPlace w z) same c.in-Some.ensures.place in
    let arg : to_z w64 (of_z w64 (x +ℤ pos 1)) ≡ one_after x = omega (arith, ints, c.in-Some.ensures.within.0, c.in-Some.ensures.within.1) in
    let cells = c.requires.sound.placed.0 in
    let y = c.requires.sound.placed.1 in
    let before = subst (λ z. AreRows cells y z w.rows) (sym arg) (ready-rows cells y x w c.requires.sound.placed.2 place) in
    let two : one_after (to_z w64 (of_z w64 (x +ℤ pos 1))) ≡ x +ℤ pos 2 = omega (arith, ints, arg) in
    record {
      place = (omega (arith, ints, c.in-Some.ensures.within.0, same), omega (arith, ints, c.in-Some.ensures.within.1, same));
      rows = c.take_column-self.ensures.inside c.requires.sound.rows;
      middle = middle-end x w place c.requires.sound.east;
      east = subst (λ z. (is_blank_column c.take_column-self.result ≡ true) ⊎ (z <ℤ far)) arg (c.take_column-self.ensures.end c.requires.sound.rows);
      placed = (cells, y, subst (λ z. AreRows cells y z c.take_column-self.new.self) two (c.take_column-self.ensures.rest cells y before));
    }

pub returns-clause-east : goal.returns-clause-east
returns-clause-east c e =
    let w = c.args.self.now in
    let x = to_z w64 (of_z w64 c.in-Some.next) in
    let same : c.in-Some.next ≡ x = omega (arith, ints, c.in-Some.ensures.within.0, c.in-Some.ensures.within.1) in
    goes-east x w c.requires.sound.placed (subst (λ z. IsNextPlace w z) same c.in-Some.ensures.place)

pub returns-clause-below : goal.returns-clause-below
returns-clause-below c bound positive h =
    let b = c.take_column-self.ensures.below bound positive h.rows in
    record { rows = b.0; west = h.middle; middle = h.east; east = b.1 }

pub returns-clause-window : goal.returns-clause-window
returns-clause-window c e cells y h =
    let w = c.args.self.now in
    let x = to_z w64 (of_z w64 c.in-Some.next) in
    let same : c.in-Some.next ≡ x = omega (arith, ints, c.in-Some.ensures.within.0, c.in-Some.ensures.within.1) in
    let place : IsNextPlace w x = subst (λ z. IsNextPlace w z) same c.in-Some.ensures.place in
    let arg : to_z w64 (of_z w64 (x +ℤ pos 1)) ≡ one_after x = omega (arith, ints, c.in-Some.ensures.within.0, c.in-Some.ensures.within.1) in
    let before = subst (λ z. AreRows cells y z w.rows) (sym arg) (ready cells y x w h place) in
    goes-on cells y x w c.take_column-self.result c.take_column-self.new.self h place
    (c.take_column-self.ensures.column cells y before ∙ ap (column_at cells y) arg)
    (subst (λ z. AreRows cells y (one_after z) c.take_column-self.new.self) arg (c.take_column-self.ensures.rest cells y before))

pub returns-clause-smaller : goal.returns-clause-smaller
returns-clause-smaller c e =
    let w = c.args.self.now in
    let x = to_z w64 (of_z w64 c.in-Some.next) in
    let same : c.in-Some.next ≡ x = omega (arith, ints, c.in-Some.ensures.within.0, c.in-Some.ensures.within.1) in
    let place : IsNextPlace w x = subst (λ z. IsNextPlace w z) same c.in-Some.ensures.place in
    let arg : to_z w64 (of_z w64 (x +ℤ pos 1)) ≡ one_after x = omega (arith, ints, c.in-Some.ensures.within.0, c.in-Some.ensures.within.1) in
    fewer-steps x w c.take_column-self.result c.take_column-self.new.self place c.take_column-self.ensures.fewer
    (λ s. c.take_column-self.ensures.consumed (subst (λ z. SomeStartsAt z w.rows) (sym arg) s))
