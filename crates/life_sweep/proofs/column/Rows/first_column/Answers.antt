use Rattle.std.proofs.Common.{◌≤ℤ◌, arith, w64, to_z, of_z}
use Rattle.std.proofs.lemmas.Int.{ints}
use Rattle.life_sweep.proofs.RowLemmas.{StartsFrom-less, empty-row}
use Rattle.life_sweep.proofs.column.Rows.first_column.Goals as goal

pub returns-then-first-lt-FAR-clause-from : goal.returns-then-first-lt-FAR-clause-from
returns-then-first-lt-FAR-clause-from c =
    let m = to_z w64 (of_z w64 c.lesser-first-2.result) in
    let n : m ≤ℤ c.first_in.result = omega (arith, ints, c.lesser-first.ensures.first, c.lesser-first-2.ensures.first) in
    let h : m ≤ℤ c.first_in-2.result = omega (arith, ints, c.lesser-first.ensures.second, c.lesser-first-2.ensures.first) in
    let s : m ≤ℤ c.first_in-3.result = omega (arith, ints, c.lesser-first-2.ensures.second) in
    record {
      north = StartsFrom-less _ _ c.args.self.now.north.now n c.first_in.ensures.from;
      here = StartsFrom-less _ _ c.args.self.now.here.now h c.first_in-2.ensures.from;
      south = StartsFrom-less _ _ c.args.self.now.south.now s c.first_in-3.ensures.from;
    }

pub returns-else-first-lt-FAR-clause-none : goal.returns-else-first-lt-FAR-clause-none
returns-else-first-lt-FAR-clause-none c e =
    let m = c.if-first-lt-FAR.false in
    let n = empty-row _ c.args.self.now.north.now c.requires.inside.north c.first_in.ensures.at
    (omega (arith, ints, m, c.lesser-first.ensures.first, c.lesser-first-2.ensures.first)) in
    let h = empty-row _ c.args.self.now.here.now c.requires.inside.here c.first_in-2.ensures.at
    (omega (arith, ints, m, c.lesser-first.ensures.second, c.lesser-first-2.ensures.first)) in
    let s = empty-row _ c.args.self.now.south.now c.requires.inside.south c.first_in-3.ensures.at (omega (arith, ints, m, c.lesser-first-2.ensures.second)) in
    omega (arith, n, h, s)
