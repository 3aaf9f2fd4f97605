use Rattle.std.proofs.Common.{◌≡◌, ℕ, ◌+◌, ◌<◌, true, false, slice_index, sym, ◌∙◌, subst, IsTrue}
use Rattle.std.specs.Int.{bit_at}
use Rattle.life_table.specs.Meaning.{has_state}
use Rattle.life_table.proofs.Seeing.{tell_place, pass_place}
use Rattle.life_table.proofs.seen.places_of_variable.Goals as goal
use Rattle.life_table.proofs.seen.places_of_variable.Goals.{then-has_state, else-has_state}

pub loop-k-preserved : goal.loop-k-preserved
loop-k-preserved c =
    let Has : ℕ → Type 0 = λ j. IsTrue (has_state c.args.var.now (slice_index c.args.around.now j)) in
    elim c.if-has_state.branch [
      | then-has_state w ↦ subst (λ n. (j : ℕ) → j < c.loop-k.k + 1 → Has j → bit_at n j ≡ 1) (sym w.places-is)
          (tell_place c.loop-k.places c.loop-k.k c.loop-k-test.true Has c.loop-k.invariant)
      | else-has_state w ↦ subst (λ n. (j : ℕ) → j < c.loop-k.k + 1 → Has j → bit_at n j ≡ 1) (sym w.places-is)
          (pass_place c.loop-k.places c.loop-k.k Has
          (λ h. absurd (let e : true ≡ false = sym h ∙ sym c.has_state.ensures ∙ w.if-has_state.false in let z : ⊥ = cc in z)) c.loop-k.invariant)
    ]
