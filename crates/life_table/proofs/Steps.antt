-- Inputs that are these states.
use Rattle.std.proofs.Common.{◌≡◌, ℕ, ◌+◌, ◌<◌, List, [], ◌∷◌, ◌++◌, take, length, refl, ap, sym, ◌∙◌, slice_index}
use Rattle.std.proofs.lemmas.List.{take_more, take-map}
use Rattle.life_table.specs.Found.{Adds, Consistent}
use Rattle.life_table.specs.Meaning.{state_of, GivesAs}
use Rattle.life_table.proofs.Adding.{adds_same}
use Rattle.life_table.specs.declared.found.Found.{Found}
use Rattle.life_table.specs.declared.table.Var.{Var}
use Rattle.life_table.specs.declared.table.Transition.{Transition}

-- inputs that can't be these states give nothing
pub no_image : (vars : List Var) (line : Transition) (states : List ℕ) (k : ℕ) → k < length states
    → (Consistent vars (take (k + 1) line.inputs) (take k states ++ slice_index states k ∷ []) → ⊥) →
    (s : ℕ) → GivesAs vars line states s → ⊥
no_image vars line states k below none s g =
    none (record {
      choice = g.choice;
      is_choice = g.is_choice;
      values = sym (take-map (state_of g.choice) (k + 1) line.inputs) ∙ ap (take (k + 1)) g.inputs ∙ take_more states k 0 below;
    })

-- inputs that are these states give one output
pub one_image : (vars : List Var) (line : Transition) (states : List ℕ) (o : ℕ) (old new : Found) → Consistent vars line.inputs states →
    ((s : ℕ) → GivesAs vars line states s → s ≡ o) → Adds (λ s. s ≡ o) old new → Adds (GivesAs vars line states) old new
one_image vars line states o old new c only h =
    let out : state_of c.choice line.output ≡ o = only (state_of c.choice line.output)
    (record { choice = c.choice; is_choice = c.is_choice; inputs = c.values; output = refl }) in
    adds_same (λ s. s ≡ o) (GivesAs vars line states)
    (λ s e. record { choice = c.choice; is_choice = c.is_choice; inputs = c.values; output = out ∙ sym e })
    only old new h
