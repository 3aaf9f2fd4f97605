use Rattle.std.proofs.Common.{◌≡◌, ℕ, ◌+◌, ℤ, neg_ℤ, ◌≤ℤ◌, Result, OnOk, ◌-◌, ◌^◌, ◌≤◌, ◌+ℤ◌, pos, ap, arith, to_z, of_z, w64, IfErr, IsErrAnd}
use Rattle.std.proofs.lemmas.Result.{on_ok_weaker}
use Rattle.std.proofs.lemmas.Int.{ints}
use Rattle.std.proofs.Math.Pow.{pow_mono}
use Rattle.life_base.specs.declared.kind.Kind.{Kind}
use Rattle.life_base.specs.declared.kind.Kind.TheVariants.{Memory}
use Rattle.life_base.specs.Tree.{Tree, depth}
use Rattle.life_quad.specs.Bands.{IsPlaced, northern, southern}
use Rattle.life_quad.specs.declared.id.Id.{Id}
use Rattle.life_quad.specs.declared.listing.Placed.{Placed}
use Rattle.life_quad.proofs.BandLemmas.{quarters_kept}
use Rattle.life_quad.proofs.CellListLemmas.{halves_side}
use Rattle.life_quad.proofs.listing.split.Goals as goal
use Rattle.life_base.proofs.Results.{error_is}

-- a refusal that is passed on
refused : {e : Kind} (north south northern southern : Type 0) (r : Result Unit Kind) → IsErrAnd r (λ f. f ≡ e) → e ≡ Memory
    → record { north : OnOk r north; south : OnOk r south; northern : OnOk r northern; southern : OnOk r southern; refusals : IfErr r (λ e. e ≡ Memory) }
refused north south northern southern r reported memory =
    let p = error_is r reported in
    record { north = rw p tt; south = rw p tt; northern = rw p tt; southern = rw p tt; refusals = rw p memory }

-- what is kept in a band of the level below: a known quarter whose columns lie in the half from this one on
abbrev Half : (K : Id → Type 0) (C : Id → Tree) (k : ℕ) (column : ℤ) (q : Id) → Type 0 → Type 0
Half K C k column q E =
    record {
      known : K q;
      level : depth (C q) ≡ k - 1;
      west : neg_ℤ (pos (2 ^ 61)) ≤ℤ to_z w64 (of_z w64 column);
      east : (to_z w64 (of_z w64 column) +ℤ pos (2 ^ (k - 1))) ≤ℤ pos (2 ^ 61);
      each : E;
    }

module _ {K : Id → Type 0} {C : Id → Tree} {each : Type 0} (level : ℕ) (p : Placed) (q : Id) (low : 1 ≤ level) (placed : IsPlaced K C level p) (known : K q)
    (one : depth (C q) + 1 ≡ depth (C p.square)) (e : each) where
  west_half : Half K C level p.column q each
  west_half =
      let west = placed.west in
      let east = placed.east in
      let le : 2 ^ (level - 1) ≤ 2 ^ level = pow_mono (omega arith) in
      record {
        known = known;
        level = omega (arith, one, placed.level);
        west = omega (arith, ints, west, east);
        east = omega (arith, ints, west, east, le);
        each = e;
      }

  east_half : (column : ℤ) → column ≡ to_z w64 (of_z w64 p.column) +ℤ pos (2 ^ (level - 1)) → Half K C level column q each
  east_half column half =
      let west = placed.west in
      let east = placed.east in
      let twice = halves_side level low in
      record {
        known = known;
        level = omega (arith, one, placed.level);
        west = omega (arith, ints, west, east, half, twice);
        east = omega (arith, ints, west, east, half, twice);
        each = e;
      }

pub keep-requires : goal.keep-requires
keep-requires g c =
    west_half c.args.level c.args.placed _ c.requires.low c.requires.placed c.divide.ensures.quarters.nw c.divide.ensures.quarters.nw_level c.requires.north

pub keep-requires-2 : goal.keep-requires-2
keep-requires-2 g c =
    east_half c.args.level c.args.placed _ c.requires.low c.requires.placed c.divide.ensures.quarters.ne c.divide.ensures.quarters.ne_level
    c.in_ok-keep.ensures.each _ c.further-east.ensures

pub keep-requires-3 : goal.keep-requires-3
keep-requires-3 g c =
    west_half c.args.level c.args.placed _ c.requires.low c.requires.placed c.divide.ensures.quarters.sw c.divide.ensures.quarters.sw_level c.requires.south

pub keep-requires-4 : goal.keep-requires-4
keep-requires-4 g c =
    east_half c.args.level c.args.placed _ c.requires.low c.requires.placed c.divide.ensures.quarters.se c.divide.ensures.quarters.se_level
    c.in_ok-keep-3.ensures.each _ c.further-east.ensures

pub returns-in_err-keep : goal.returns-in_err-keep
returns-in_err-keep g c = refused _ _ _ _ c.from_residual.result c.from_residual.ensures.1 c.in_err-keep.ensures.refusals

pub returns-in_err-keep-2 : goal.returns-in_err-keep-2
returns-in_err-keep-2 g c = refused _ _ _ _ c.from_residual-in_err-keep-2.result c.from_residual-in_err-keep-2.ensures.1 c.in_err-keep-2.ensures.refusals

pub returns-in_err-keep-3 : goal.returns-in_err-keep-3
returns-in_err-keep-3 g c = refused _ _ _ _ c.from_residual-in_err-keep-3.result c.from_residual-in_err-keep-3.ensures.1 c.in_err-keep-3.ensures.refusals

pub returns : goal.returns
returns g c =
    let d = c.divide.ensures in
    let p = c.requires.placed in
    let west = p.west in
    let east = p.east in
    let twice = halves_side c.args.level c.requires.low in
    let half = c.further-east.ensures in
    let first : to_z w64 (of_z w64 c.args.placed.column) ≡ c.args.placed.column = omega (arith, ints, west, east) in
    let second : to_z w64 (of_z w64 c.further-east.result) ≡ c.args.placed.column +ℤ pos (2 ^ (c.args.level - 1)) = omega
    (arith, ints, half, west, east, twice) in
    let C = g.S.Squares.content c.args.squares.now in
    let half_side = 2 ^ (c.args.level - 1) in
    let column = c.args.placed.column in
    let q = c.divide.result in
    let north = quarters_kept half_side (C q.nw) (C q.ne) column _ _ _ _ _ _ (ap (λ t. northern half_side t column) d.square) first second
    c.in_ok-keep.ensures.pieces c.in_ok-keep-2.ensures.pieces in
    let south = quarters_kept half_side (C q.sw) (C q.se) column _ _ _ _ _ _ (ap (λ t. southern half_side t column) d.square) first second
    c.in_ok-keep-3.ensures.pieces in
    record {
      north = on_ok_weaker c.keep-4.result (λ _. c.in_ok-keep-2.ensures.each) c.keep-4.ensures.each;
      south = c.keep-4.ensures.each;
      northern = on_ok_weaker c.keep-4.result (λ _. north) c.keep-4.ensures.each;
      southern = on_ok_weaker c.keep-4.result south c.keep-4.ensures.pieces;
      refusals = c.keep-4.ensures.refusals;
    }
