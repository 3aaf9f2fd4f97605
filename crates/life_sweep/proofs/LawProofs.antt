-- What laws answer, in the words of the plane.
use Rattle.std.proofs.Common.{◌≡◌, ℕ, ℤ, List, subst, sym, refl, ◌∙◌}
use Rattle.life_base.specs.declared.rule.Near.{Near}
use Rattle.life_base.specs.declared.rule.Near.TheVariants as near
use Rattle.life_table.specs.Meaning.{Decides, Becomes, count_of}
use Rattle.life_table.specs.declared.table.Neighborhood.{Neighborhood}
use Rattle.life_table.specs.declared.table.Neighborhood.TheVariants.{VonNeumann, Moore}
use Rattle.life_sweep.specs.Generation.{neighbours_at, neighborhood_of_rule, LifeAnswersAt, TableAnswersAt, states_at, neighbours_among}
use Rattle.life_next.specs.Generation.{counted_around, next_by_count}

-- the neighbours that a neighbourhood names stand where it says
named-at : (neighborhood : Neighborhood) (cells : ℤ → ℤ → ℕ) (x y : ℤ) → neighbours_among neighborhood (states_at cells x y)
    ≡ neighbours_at neighborhood cells x y
named-at VonNeumann cells x y = refl
named-at Moore cells x y = refl

-- and so do those in which a rule counts
counted-at : (near : Near) (cells : ℤ → ℤ → ℕ) (x y : ℤ) → neighbours_at (neighborhood_of_rule near) cells x y ≡ counted_around near cells x y
counted-at near.VonNeumann cells x y = refl
counted-at near.Moore cells x y = refl

pub life-answers-at : LifeAnswersAt
life-answers-at rule cells x y answer =
    let e = named-at (neighborhood_of_rule rule.near) cells x y ∙ counted-at rule.near cells x y in
    let P = λ (others : List ℕ). answer ≡ Becomes (next_by_count rule.sets (cells x y) (count_of 1 others)) in
    ((λ h. subst P e h), (λ h. subst P (sym e) h))

pub table-answers-at : TableAnswersAt
table-answers-at table cells x y answer =
    let P = λ (others : List ℕ). Decides table.symmetry table.vars (cells x y) others table.lines answer in
    let e = named-at table.neighborhood cells x y in
    ((λ h. subst P e h), (λ h. subst P (sym e) h))
