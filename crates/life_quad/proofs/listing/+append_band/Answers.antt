use Rattle.std.proofs.Common.{◌≡◌, ◌-◌, ◌/◌, ◌^◌, ◌≤◌, length, arith, sym, ◌∙◌, ap, subst, refl, inr, Err, rules, to_z, of_z, w64}
use Rattle.std.proofs.lemmas.Result.{on_ok_weaker}
use Rattle.std.proofs.lemmas.Int.{ints}
use Rattle.std.proofs.lemmas.List.{length-map}
use Rattle.std.proofs.Math.Pow.{pow_mono}
use Rattle.life_base.specs.declared.kind.Kind.TheVariants.{Memory, TooManyCells}
use Rattle.life_quad.specs.Bands.{InBand, pieces, upper, lower}
use Rattle.life_quad.proofs.BandLemmas.{InBand-upper, InBand-lower}
use Rattle.life_quad.proofs.CellListLemmas.{band_least, append_none, halves_side, both_halves, more_in_first, more_in_second}
use Rattle.life_quad.proofs.PartLemmas.{within_limit}
use Rattle.life_quad.proofs.listing.+append_band.Goals as goal
use Rattle.life_base.proofs.Results.{error_is}

pub returns-then-free-len-clause-many : goal.returns-then-free-len-clause-many
returns-then-free-len-clause-many g t c = λ same.
    let band = pieces (g.S.Squares.content c.args.squares.now) c.args.band.items in
    let least = band_least c.args.level c.args.row band c.requires.band in
    let squares : length band ≡ length c.args.band.items = length-map _ _ in
    let l = c.len.ensures in
    let m = c.len-2.ensures in
    let n = c.if-free-len.true in
    omega (arith, least, squares)

pub returns-then-len-free-clause-few : goal.returns-then-len-free-clause-few
returns-then-len-free-clause-few g t c =
    let C = g.S.Squares.content c.args.squares.now in
    let band = subst (λ n. InBand n (pieces C c.args.band.items)) c.if-level-eq2.true c.requires.band in
    let counted : c.len-then-level-eq2.result ≡ length c.args.band.items = let n = c.len-then-level-eq2.ensures in grind arith in
    let free : c.len-then-level-eq2.result ≤ (c.args.limit - length c.args.list.now.items) / 16 =
    let l = c.len.ensures in
    let n = c.if-len-free.true in
    grind arith in
    on_ok_weaker c.append_rows.result
    (within_limit _ C c.args.band.items _ _ c.args.limit c.args.list.now.items _ band c.deref-then-len-free.ensures.value counted free c.requires.few)
    c.append_rows.ensures.cells

pub returns-then-is_empty-clause-cells : goal.returns-then-is_empty-clause-cells
returns-then-is_empty-clause-cells g t c =
    let empty : length c.args.band.items ≡ 0 = let e = c.is_empty.ensures in let f = c.if-is_empty.true in grind arith in
    append_none _ (g.S.Squares.content c.args.squares.now) c.args.level c.args.row _ empty

-- the halves of the band are bands, and its cells are theirs
pub append_band-requires : goal.append_band-requires
append_band-requires g t c κs within =
    let o = c.in_ok-north.ensures in
    let low : 1 ≤ c.args.level = let n = c.if-level-eq0.false in omega arith in
    let upper_is = o.upper ∙ ap (λ b. upper (2 ^ (c.args.level - 1)) (pieces (g.S.Squares.content c.args.squares.now) b)) c.deref-2.ensures.value in
    let band = subst (InBand (c.args.level - 1)) (sym upper_is) (InBand-upper c.args.level _ low c.requires.band) in
    let le : 2 ^ (c.args.level - 1) ≤ 2 ^ c.args.level = pow_mono (omega arith) in
    let north = c.requires.north in
    let south = c.requires.south in
    (search rules, (search rules, (search rules, (o.north, (band, (omega (arith, ints, north), (omega (arith, ints, south, le), search rules)))))))

pub append_band-requires-2 : goal.append_band-requires-2
append_band-requires-2 g t c κs within =
    let o = c.in_ok-north.ensures in
    let low : 1 ≤ c.args.level = let n = c.if-level-eq0.false in omega arith in
    let lower_is = o.lower ∙ ap (λ b. lower (2 ^ (c.args.level - 1)) (pieces (g.S.Squares.content c.args.squares.now) b)) c.deref-2.ensures.value in
    let band = subst (InBand (c.args.level - 1)) (sym lower_is) (InBand-lower c.args.level _ low c.requires.band) in
    let twice = halves_side c.args.level low in
    let half = c.further-middle.ensures in
    let north = c.requires.north in
    let south = c.requires.south in (
      search rules,
      (
        search rules,
        (
          search rules,
          (o.south, (band, (omega (arith, ints, north, half), (omega (arith, ints, south, half, twice), search rules)))),
        ),
      ),
    )

pub returns-in_err-north : goal.returns-in_err-north
returns-in_err-north g t c =
    let p = error_is c.from_residual.result c.from_residual.ensures.1 in
    let memory = c.in_err-north.ensures.refusals in
    record {
      cells = rw p tt;
      few = rw p tt;
      many = rw p (λ f. absurd (let kinds : Memory ≡ TooManyCells = sym memory ∙ f in cc));
      refusals = rw p (inr memory);
    }

pub returns-in_err-append_band : goal.returns-in_err-append_band
returns-in_err-append_band g t c =
    let o = c.in_ok-north.ensures in
    let C = g.S.Squares.content c.args.squares.now in
    let reported = c.from_residual-in_err-append_band in
    let p = error_is reported.result reported.ensures.1 in
    let first : to_z w64 (of_z w64 c.args.row) ≡ c.args.row = omega (arith, ints, c.ranges.row) in
    let many = more_in_first c.args.level c.args.row _ _ C c.args.band.items _ _ _ c.if-level-eq0.false first refl c.deref-2.ensures.value o.upper o.lower
    {T = Unit {0}} (Err _) (length c.args.list.now.items) c.args.limit c.in_err-append_band.ensures.many in
    record { cells = rw p tt; few = rw p tt; many = rw p many; refusals = rw p c.in_err-append_band.ensures.refusals }

pub returns-clause-cells : goal.returns-clause-cells
returns-clause-cells g t c =
    let o = c.in_ok-north.ensures in
    on_ok_weaker c.append_band-2.result
    (λ e. both_halves c.args.level c.args.row (to_z w64 (of_z w64 c.args.row)) (to_z w64 (of_z w64 c.further-middle.result)) _ c.args.band.items _ _ _
    c.if-level-eq0.false
    (omega (arith, ints, c.ranges.row)) (omega (arith, ints, c.further-middle.ensures, c.ranges.row)) c.deref-2.ensures.value o.upper o.lower _ _ _
    c.in_ok-append_band.ensures.cells e)
    c.append_band-2.ensures.cells

pub returns-clause-many : goal.returns-clause-many
returns-clause-many g t c =
    let o = c.in_ok-north.ensures in
    more_in_second c.args.level c.args.row (to_z w64 (of_z w64 c.args.row)) (to_z w64 (of_z w64 c.further-middle.result)) _ c.args.band.items _ _ _
    c.if-level-eq0.false
    (omega (arith, ints, c.ranges.row)) (omega (arith, ints, c.further-middle.ensures, c.ranges.row)) c.deref-2.ensures.value o.upper o.lower
    c.append_band-2.result _ _ c.args.limit
    c.in_ok-append_band.ensures.cells c.append_band-2.ensures.many
