use Rattle.std.proofs.Common.{◌≡◌, ℕ, ◌^◌, ◌≤◌, ◌*◌, ◌%◌, pos, arith, to_z, w64}
use Rattle.std.proofs.lemmas.Int.{ints}
use Rattle.std.proofs.Math.Pow.{pow_mono}
use Rattle.life_slide.proofs.moved.side_length.Goals as goal

length-is : (level : ℕ) → level ≤ 61 → to_z w64 (1 * 2 ^ level % 18446744073709551616) ≡ pos (2 ^ level)
length-is level low =
    let most : 2 ^ level ≤ 2 ^ 61 = pow_mono {i = level} {j = 61} low in
    omega (arith, ints, most)

pub returns-clause-side : goal.returns-clause-side
returns-clause-side c = length-is c.args.level c.requires

pub returns-clause-some : goal.returns-clause-some
returns-clause-some c =
    let e = length-is c.args.level c.requires in
    let some : 1 ≤ 2 ^ c.args.level = pow_mono {i = 0} {j = c.args.level} (omega arith) in
    omega (arith, ints, e, some)

pub returns-clause-most : goal.returns-clause-most
returns-clause-most c =
    let e = length-is c.args.level c.requires in
    let most : 2 ^ c.args.level ≤ 2 ^ 61 = pow_mono {i = c.args.level} {j = 61} c.requires in
    omega (arith, ints, e, most)
