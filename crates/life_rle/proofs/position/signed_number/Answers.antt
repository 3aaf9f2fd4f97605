use Rattle.std.proofs.Common.{subst, ℤ, Result}
use Rattle.life_base.specs.declared.kind.Kind.{Kind}
use Rattle.life_rle.specs.Position.{signed_number}
use Rattle.life_rle.proofs.NumbersRead.{Keeps, kept_number, kept_none}
use Rattle.life_rle.proofs.position.signed_number.Goals as goal

pub returns-in_default-clause-value : goal.returns-in_default-clause-value
returns-in_default-clause-value c =
    let text = c.args.text.now in
    let P : Result ℤ Kind → Type 0 = λ r. Keeps r (signed_number text) in
    kept_none c.in-Err.kind (signed_number text) c.in_default.not-TooLarge (subst P c.in-Err.is (kept_number c.read_i64.result text c.read_i64.ensures))
