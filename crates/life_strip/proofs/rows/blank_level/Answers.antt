use Rattle.std.proofs.Common.{◌≡◌, ◌^◌, ◌≤◌, ◌-◌, ◌∙◌, length, Some, sym, ap, arith, slice_get, option_copied}
use Rattle.std.proofs.Math.Pow.{pow_mono}
use Rattle.std.proofs.lemmas.Option.{get_or_from_slice_get}
use Rattle.life_base.specs.declared.cell.TheConstants.{MAX_LEVEL}
use Rattle.life_strip.specs.Picture.{IsLowest}
use Rattle.life_strip.proofs.PictureLemmas.{power-at_most, last-lowest}
use Rattle.life_strip.proofs.rows.blank_level.Goals as goal

there : (c : goal.After-min) → slice_get c.args.strips.now (length c.args.strips.now - 1) ≡ Some c.in-Some.last.now
there c = sym c.last.ensures.value ∙ ap option_copied c.in-Some.is

-- the last strip is the lowest
low : (c : goal.After-min) → IsLowest c.in-Some.last.now.level c.args.strips.now
low c = last-lowest c.args.strips.now c.in-Some.last.now c.requires.falling (there c)

-- and what fits is at most the rows
fits : (c : goal.After-min) → 2 ^ c.min.result ≤ c.args.rows
fits c =
    let smaller = pow_mono {i = c.min.result} {j = c.ilog2-fitting.result} (omega (arith, c.min.ensures)) in
    omega (arith, smaller, c.ilog2-fitting.ensures.power_le)

pub returns-in-Some-clause-lowest : goal.returns-in-Some-clause-lowest
returns-in-Some-clause-lowest c k d lt = let a = low c k d lt in omega (arith, a, c.min.ensures)

pub returns-in-Some-clause-most : goal.returns-in-Some-clause-most
returns-in-Some-clause-most c = let f = fits c in power-at_most c.min.result c.args.rows MAX_LEVEL f (omega (arith, c.requires.within))

pub returns-in-Some-clause-fits : goal.returns-in-Some-clause-fits
returns-in-Some-clause-fits c = fits c

pub returns-in-Some-clause-largest : goal.returns-in-Some-clause-largest
returns-in-Some-clause-largest c level lowest high within =
    let below = power-at_most level c.args.rows c.ilog2-fitting.result within c.ilog2-fitting.ensures.next_power_gt in
    let within_last = lowest (length c.args.strips.now - 1) c.in-Some.last.now (omega (arith, c.in-Some.ensures.item.3.0)) in
    let last = ap (λ s. s.level) (get_or_from_slice_get c.args.strips.now (length c.args.strips.now - 1) c.in-Some.last.now c.in-Some.last.now (there c)) in
    omega (arith, below, within_last, last, c.min.ensures)

pub returns-in-None-clause-most : goal.returns-in-None-clause-most
returns-in-None-clause-most c = power-at_most c.ilog2-fitting.result c.args.rows MAX_LEVEL c.ilog2-fitting.ensures.power_le (omega (arith, c.requires.within))

pub returns-in-None-clause-largest : goal.returns-in-None-clause-largest
returns-in-None-clause-largest c level lowest high within = power-at_most level c.args.rows c.ilog2-fitting.result within c.ilog2-fitting.ensures.next_power_gt
