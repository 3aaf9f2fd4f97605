use Rattle.std.proofs.Common.{◌≡◌, ◌<◌, refl, sym, subst, arith, w64, to_z, of_z, pos, ◌+ℤ◌, take, drop, All, take-append-drop}
use Rattle.std.proofs.lemmas.Int.{ints}
use Rattle.std.proofs.lemmas.List.Elements.{All-take, All-drop}
use Rattle.life_base.specs.declared.cell.Cell.{Cell}
use Rattle.life_next.specs.Generation.{one_after}
use Rattle.life_sweep.specs.Rows.{IsNextRow, IsInside, GoesSouth}
use Rattle.life_sweep.specs.declared.band.Band.{Band}
use Rattle.life_sweep.proofs.BandLemmas.{IsSplitAtRow, goes-south, last-band, fewer-rows, here-end, south-end}
use Rattle.life_sweep.proofs.band.Band.advance.Goals as goal

pub returns-in_default-clause-over : goal.returns-in_default-clause-over
returns-in_default-clause-over c e cells blank h = last-band cells c.args.self.now blank h (c.in_default.ensures.none refl)

-- the rows that are left are divided at the next row
divided : (c : goal.After-rest-2-1) → IsSplitAtRow (one_after (to_z w64 (of_z w64 c.in-Some.next))) c.args.self.now.rest.now c.split_at.result.0.now
    c.split_at.result.1.now
divided c =
    let rest = c.args.self.now.rest.now in
    let x = to_z w64 (of_z w64 c.in-Some.next) in
    let arg : to_z w64 (of_z w64 (x +ℤ pos 1)) ≡ one_after x = omega (arith, ints, c.in-Some.ensures.within.0, c.in-Some.ensures.within.1) in
    let n = c.row_length.result in
    let split : IsSplitAtRow (to_z w64 (of_z w64 (x +ℤ pos 1))) rest (take n rest) (drop n rest) = record {
      both = sym (take-append-drop n rest);
      row = c.row_length.ensures.row;
      rest = c.row_length.ensures.rest;
    } in
    let prefix = subst (λ z. IsSplitAtRow (to_z w64 (of_z w64 (x +ℤ pos 1))) rest z (drop n rest)) (sym c.split_at.ensures.front) split in
    let both = subst (λ z. IsSplitAtRow (to_z w64 (of_z w64 (x +ℤ pos 1))) rest c.split_at.result.0.now z) (sym c.split_at.ensures.back) prefix in
    subst (λ z. IsSplitAtRow z rest c.split_at.result.0.now c.split_at.result.1.now) arg both

abbrev new : goal.After-rest-2-1 → Band
new c = record {
  y = to_z w64 (of_z w64 c.in-Some.next);
  rows = record { north = c.args.self.now.rows.here; here = c.args.self.now.rows.south; south = c.split_at.result.0 };
  rest = c.split_at.result.1;
}

next-row : (c : goal.After-rest-2-1) → IsNextRow c.args.self.now (to_z w64 (of_z w64 c.in-Some.next))
next-row c =
    let same : c.in-Some.next ≡ to_z w64 (of_z w64 c.in-Some.next) = omega (arith, ints, c.in-Some.ensures.within.0, c.in-Some.ensures.within.1) in
    subst (λ z. IsNextRow c.args.self.now z) same c.in-Some.ensures.row

behind : (c : goal.After-rest-2-1) → All IsInside c.split_at.result.1.now
behind c = subst (λ z. All IsInside z) (sym c.split_at.ensures.back) (All-drop IsInside c.row_length.result c.args.self.now.rest.now c.requires.sound.rest)

moved : (c : goal.After-rest-2-1) → GoesSouth c.requires.sound.placed.0 c.args.self.now (new c)
moved c = goes-south c.requires.sound.placed.0 c.args.self.now (new c) c.requires.sound.placed.1 c.requires.sound.placed.2 c.requires.sound.rest (next-row c)
    refl refl (divided c) (behind c)

pub returns-clause-south : goal.returns-clause-south
returns-clause-south c e = (moved c).south

pub returns-clause-sound : goal.returns-clause-sound
returns-clause-sound c =
    let b = c.args.self.now in
    let x = to_z w64 (of_z w64 c.in-Some.next) in
    let same : c.in-Some.next ≡ x = omega (arith, ints, c.in-Some.ensures.within.0, c.in-Some.ensures.within.1) in
    let south = subst (λ z. All IsInside z) (sym c.split_at.ensures.front) (All-take IsInside c.row_length.result b.rest.now c.requires.sound.rest) in
    record {
      row = (omega (arith, ints, c.in-Some.ensures.within.0, same), omega (arith, ints, c.in-Some.ensures.within.1, same));
      rows = record { north = c.requires.sound.rows.here; here = c.requires.sound.rows.south; south = south };
      rest = behind c;
      here = here-end x b (next-row c) c.requires.sound.south;
      south = south-end (one_after x) c.split_at.result.0.now south (divided c).row;
      placed = (c.requires.sound.placed.0, c.requires.sound.placed.1, (moved c).here);
    }

pub returns-clause-below : goal.returns-clause-below
returns-clause-below c bound h =
    let P = λ (cell : Cell). cell.state < bound in
    let rest = c.args.self.now.rest.now in
    record {
      rows = record {
        north = h.rows.here;
        here = h.rows.south;
        south = subst (λ z. All P z) (sym c.split_at.ensures.front) (All-take P c.row_length.result rest h.rest);
      };
      rest = subst (λ z. All P z) (sym c.split_at.ensures.back) (All-drop P c.row_length.result rest h.rest);
    }

pub returns-clause-band : goal.returns-clause-band
returns-clause-band c e cells blank h =
    goes-south cells c.args.self.now (new c) blank h c.requires.sound.rest (next-row c) refl refl (divided c) (behind c)

pub returns-clause-smaller : goal.returns-clause-smaller
returns-clause-smaller c e = fewer-rows c.args.self.now (new c) (next-row c) refl (divided c)
