use Rattle.std.proofs.Common.{◌≡◌, ℕ, ◌-◌, ◌*◌, ◌%◌, ◌^◌, ◌≤◌, pos, arith, to_z, w64}
use Rattle.std.proofs.lemmas.Int.{ints}
use Rattle.std.proofs.Math.Pow.{pow_mono}
use Rattle.life_phases.proofs.middle.half_side.Goals as goal

half-is : (level : ℕ) → level ≤ 62 → to_z w64 (1 * 2 ^ (level - 1) % 18446744073709551616) ≡ pos (2 ^ (level - 1))
half-is level low =
    let most : 2 ^ (level - 1) ≤ 2 ^ 61 = pow_mono {i = level - 1} {j = 61} (omega (arith, low)) in
    omega (arith, ints, most)

pub returns : goal.returns
returns c = half-is c.args.level c.requires.high
