use Rattle.std.proofs.Common.{ap, ◌∙◌, subst, inl, inr, arith, set, length-set, IsTrue, slice_index, get_or-set_same, get_or-set_other}
use Rattle.std.specs.Int.{bit_at}
use Rattle.std.proofs.lemmas.Bool.Decides.{eqb_tells}
use Rattle.life_table.specs.Meaning.{has_state}
use Rattle.life_table.proofs.Seeing.{same_there}
use Rattle.life_table.proofs.seen.places_of_variables.Goals as goal

pub loop-i-preserved : goal.loop-i-preserved
loop-i-preserved c =
    let i = c.loop-i.i in
    let y = c.places_of_variable.result in
    let space = c.loop-i-test.true in
    record {
      each = λ j k below few var is has. elim (eqb_tells j i) [
        | inl here ↦
            ap (λ n. bit_at (slice_index (set c.loop-i.places i y) n) k) here.1
            ∙ ap (λ n. bit_at n k) (get_or-set_same c.loop-i.places i y 0 (omega (arith, space, c.min-i-end.ensures, c.loop-i.invariant.size)))
            ∙ c.places_of_variable.ensures k few
            (subst (λ v. IsTrue (has_state v (slice_index c.args.around.now k)))
            (same_there c.args.vars.now i j var c.index-vars-i.result here.1 (omega (arith, space, c.min-i-end.ensures)) is c.index-vars-i.is) has)
        | inr other ↦ ap (λ n. bit_at n k) (get_or-set_other c.loop-i.places i j y 0 other.1) ∙ c.loop-i.invariant.each j k (omega (arith, below, other.1)) few
            var is has
      ];
      size = length-set c.loop-i.places i y ∙ c.loop-i.invariant.size;
    }
