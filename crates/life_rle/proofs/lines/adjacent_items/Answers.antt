use Rattle.std.proofs.Common.{◌≡◌, ◌⊎◌, ℕ, true, List, [], Err, sym, subst, inl, inr}
use Rattle.std.specs.Result.{IfErr}
use Rattle.std.proofs.lemmas.Result.{IfErr-weaker}
use Rattle.life_base.specs.declared.kind.Kind.{Kind}
use Rattle.life_base.specs.declared.kind.Kind.TheVariants.{Memory, Spent}
use Rattle.life_base.specs.declared.cell.TheConstants.{MAX_LEVEL}
use Rattle.life_rle.specs.declared.cursor.Cursor.{Cursor}
use Rattle.life_rle.specs.declared.lines.Phase.{Phase}
use Rattle.life_rle.specs.declared.lines.Phase.TheVariants as phases
use Rattle.life_rle.specs.Standing.{StandsAt, is_refused, Advances}
use Rattle.life_rle.specs.Grammar.{BreaksRle, opening_of}
use Rattle.life_rle.proofs.Advance.{adv-over, breaks-before}
use Rattle.life_rle.proofs.lines.adjacent_items.Goals as goal

-- what a fault of the line tells
abbrev Tells : Phase → Cursor → List ℕ → Kind → Type 0
Tells phase cursor line kind =
    (kind ≡ Memory) ⊎ ((kind ≡ Spent) × (is_refused phase ≡ true))
    ⊎ ((lines : List (List ℕ)) → StandsAt MAX_LEVEL phase cursor lines → BreaksRle MAX_LEVEL lines line kind)

pub returns-in-Before-clause-fault : goal.returns-in-Before-clause-fault
returns-in-Before-clause-fault c =
    let line = c.args.line.now in
    let cursor = c.args.cursor in
    subst (λ (p : Phase). IfErr c.before_header.result (Tells p cursor line)) (sym c.in-Before.is)
    (IfErr-weaker c.before_header.result (λ kind. (kind ≡ Memory) ⊎ (opening_of MAX_LEVEL line ≡ Err kind))
    (Tells (phases.Before c.in-Before.position) cursor line)
    (λ kind h. elim h [ inl m ↦ inl m | inr e ↦ inr (inr (breaks-before MAX_LEVEL c.in-Before.position cursor line kind e)) ]) c.before_header.ensures.fault)

pub returns-in-Over-clause-advance : goal.returns-in-Over-clause-advance
returns-in-Over-clause-advance c =
    subst (λ (p : Phase). Advances MAX_LEVEL p c.args.cursor c.args.line.now (phases.Over c.in-Over.rule c.in-Over.position) c.args.cursor [])
    (sym c.in-Over.is) (adv-over MAX_LEVEL c.in-Over.rule c.in-Over.position c.args.cursor c.args.line.now)
