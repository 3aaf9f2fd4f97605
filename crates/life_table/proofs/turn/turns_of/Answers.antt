use Rattle.std.proofs.Common.{◌/◌, ◌<◌, refl, false, true, ap, ◌∙◌, arith, length}
use Rattle.life_table.specs.declared.table.Symmetry.TheVariants as symmetries
use Rattle.life_table.specs.Orders.{family}
use Rattle.life_table.proofs.Images.{family_is, identity_family, horizontal_family}
use Rattle.life_table.proofs.turn.turns_of.Goals as goal
use Rattle.life_table.proofs.turn.turns_of.Goals.{in-Identity, in-Rotate4, in-Rotate4Reflect, in-ReflectHorizontal, in-Permute, in-Rotate8, in-Rotate8Reflect}

pub returns-clause-images : goal.returns-clause-images
returns-clause-images c = λ other v size.
    let n = c.args.n in
    let some : 0 < length v = omega (arith, size, c.requires) in
    elim c.match-symmetry.branch [
      | in-Identity w ↦ family_is c.args.symmetry symmetries.Identity w.in-Identity.is v c.match-symmetry.step n false w.step-is
          (identity_family v some ∙ ap (λ k. family false k v) size)
      | in-Rotate4 w ↦ family_is c.args.symmetry symmetries.Rotate4 w.in-Rotate4.is v c.match-symmetry.step (n / 4) false w.step-is
          (ap (λ k. family false (k / 4) v) size)
      | in-Rotate4Reflect w ↦ family_is c.args.symmetry symmetries.Rotate4Reflect w.in-Rotate4Reflect.is v c.match-symmetry.step (n / 4) true w.step-is
          (ap (λ k. family true (k / 4) v) size)
      | in-ReflectHorizontal w ↦ family_is c.args.symmetry symmetries.ReflectHorizontal w.in-ReflectHorizontal.is v c.match-symmetry.step n true w.step-is
          (horizontal_family v some ∙ ap (λ k. family true k v) size)
      | in-Permute w ↦ absurd (other w.in-Permute.is)
      | in-Rotate8 w ↦ family_is c.args.symmetry symmetries.Rotate8 w.in-Rotate8.is v c.match-symmetry.step 1 false w.step-is refl
      | in-Rotate8Reflect w ↦ family_is c.args.symmetry symmetries.Rotate8Reflect w.in-Rotate8Reflect.is v c.match-symmetry.step 1 true w.step-is refl
    ]
