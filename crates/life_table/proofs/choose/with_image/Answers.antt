use Rattle.std.proofs.Common.{◌≡◌, ℕ, ◌+◌, ◌++◌, ◌∷◌, [], true, false, length, take, ap, sym, ◌∙◌, subst, arith, slice_index, take_all, length-take-le}
use Rattle.life_table.specs.Found.{Consistent}
use Rattle.life_table.specs.Meaning.{GivesAs}
use Rattle.life_table.proofs.Adding.{adds_none}
use Rattle.life_table.proofs.Steps.{no_image, one_image}
use Rattle.life_table.proofs.choose.with_image.Goals as goal

pub returns-then-not-allows : goal.returns-then-not-allows
returns-then-not-allows c =
    let k : ℕ = c.loop-k.k in
    let size : length (take k c.args.states.now) ≡ k = length-take-le k c.args.states.now (omega arith) in
    let no : c.allows.result ≡ false = c.if-not-allows.true in
    adds_none (GivesAs c.args.vars.now c.args.line.now c.args.states.now)
    (no_image c.args.vars.now c.args.line.now c.args.states.now k c.loop-k-test.true
    (λ con.
    let yes : c.allows.result ≡ true = c.allows.ensures.1
    (subst (λ n. Consistent c.args.vars.now (take (n + 1) c.as_slice-inputs.result.now) (take k c.args.states.now ++ slice_index c.args.states.now k ∷ []))
    (sym size)
    (subst (λ es. Consistent c.args.vars.now (take (k + 1) es) (take k c.args.states.now ++ slice_index c.args.states.now k ∷ []))
    (sym c.as_slice-inputs.ensures) con)) in
    absurd (let e : true ≡ false = sym yes ∙ no in cc)))
    c.args.found

pub returns : goal.returns
returns c =
    let whole : c.loop-k.k ≡ length c.args.states.now = omega arith in
    let con : Consistent c.args.vars.now c.args.line.now.inputs c.args.states.now =
    subst (λ es. Consistent c.args.vars.now es c.args.states.now)
    (take_all c.loop-k.k c.as_slice-inputs.result.now (omega (arith, whole, c.requires.count, ap length c.as_slice-inputs.ensures))
    ∙ c.as_slice-inputs.ensures)
    (subst (λ ws. Consistent c.args.vars.now (take c.loop-k.k c.as_slice-inputs.result.now) ws) (take_all c.loop-k.k c.args.states.now (omega (arith, whole)))
    c.loop-k.invariant) in
    one_image c.args.vars.now c.args.line.now c.args.states.now c.output_of.result c.args.found c.with_state.result con (c.output_of.ensures c.args.vars.now)
    c.with_state.ensures
