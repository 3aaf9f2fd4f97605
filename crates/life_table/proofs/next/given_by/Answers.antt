use Rattle.std.proofs.Common.{◌≡◌, ◌∷◌, drop, map, get_or, true, false, ap, sym, ◌∙◌, subst, slice_index, arith}
use Rattle.life_table.specs.Found.{IsFoundOf}
use Rattle.life_table.specs.Meaning.{Gives, state_of}
use Rattle.life_table.specs.Orders.{family}
use Rattle.life_table.specs.declared.table.Symmetry.{Symmetry}
use Rattle.life_table.specs.declared.table.Entry.TheVariants as entries
use Rattle.life_table.proofs.Fitting.{input_is}
use Rattle.life_table.proofs.Images.{tells_images, tells_permute}
use Rattle.life_table.proofs.next.given_by.Goals as goal

pub returns-then-not-can_be : goal.returns-then-not-can_be
returns-then-not-can_be c = λ s g.
    let here = input_is g.gives.choice c.args.line.now.inputs (slice_index c.args.site.now.cells.now 0 ∷ g.image) 0 (entries.Fixed 0) g.gives.inputs
    (omega (arith, c.requires.line.count, c.requires.site.some)) in
    let yes : c.can_be.result ≡ true = c.can_be.ensures.needed g.gives.choice g.gives.is_choice
    (subst (λ es. state_of g.gives.choice (get_or es 0 (entries.Fixed 0)) ≡ slice_index c.args.site.now.cells.now 0) (sym c.as_slice.ensures) here) in
    let no : c.can_be.result ≡ false = c.if-not-can_be.true in
    absurd (let e : true ≡ false = sym yes ∙ no in cc)

pub returns-in-Permute : goal.returns-in-Permute
returns-in-Permute c =
    subst (λ (y : Symmetry). IsFoundOf (Gives y c.args.site.now.vars.now c.args.line.now (slice_index c.args.site.now.cells.now 0)
    (drop 1 c.args.site.now.cells.now)) c.by_counts.result) (sym c.in-Permute.is)
    (tells_permute c.args.site.now.vars.now c.args.line.now (slice_index c.args.site.now.cells.now 0) (drop 1 c.args.site.now.cells.now) c.by_counts.result
    c.by_counts.ensures)

pub returns-in_default : goal.returns-in_default
returns-in_default c =
    tells_images c.args.symmetry c.args.site.now.vars.now c.args.line.now (slice_index c.args.site.now.cells.now 0) (drop 1 c.args.site.now.cells.now)
    (map (λ v. slice_index c.args.site.now.cells.now 0 ∷ v)
    (family c.args.site.now.ways.reflect c.args.site.now.ways.step (drop 1 c.args.site.now.cells.now))) c.by_images.result
    (ap (map (λ v. slice_index c.args.site.now.cells.now 0 ∷ v)) (sym (c.requires.images c.in_default.not-Permute))) c.by_images.ensures
