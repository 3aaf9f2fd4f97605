use Rattle.std.proofs.Common.{◌≡◌, true, refl, ap, subst, ◌∙◌, sym, rules}
use Rattle.life_base.specs.declared.rule.Rule.{Rule}
use Rattle.life_base.specs.declared.cell.TheConstants.{MAX_LEVEL}
use Rattle.life_rle.specs.declared.lines.Phase.{Phase}
use Rattle.life_rle.specs.declared.lines.Phase.TheVariants as phases
use Rattle.life_rle.specs.declared.position.Position.{Position}
use Rattle.life_rle.specs.Standing.{is_over}
use Rattle.life_rle.specs.Grammar.{IsMarked}
use Rattle.life_base.specs.Lines.{LinesRead}
use Rattle.life_rle.proofs.Stands.{marked-is_over}
use Rattle.life_rle.proofs.lines.RleLines.over.Goals as goal

is_over-over : (phase : Phase) → ((rule : Rule) (position : Position) → phase ≡ phases.Over rule position → ⊥) → is_over phase ≡ true → ⊥
is_over-over phases.Refused n e = cc
is_over-over (phases.Before position) n e = cc
is_over-over (phases.Items rule position) n e = cc
is_over-over (phases.Over rule position) n e = n rule position refl

pub returns-in_default-clause-over : goal.returns-in_default-clause-over
returns-in_default-clause-over c = λ r.
    let inside = c.self.inside in (
      λ t. search rules,
      λ h. absurd (is_over-over inside.phase c.in_default.not-Over
          (marked-is_over MAX_LEVEL inside.phase inside.cursor inside.log.lines h.0 c.self.invariant (ap (λ (v : LinesRead). v.refused) c.self.view_is ∙ r)
          (subst (λ (v : LinesRead). IsMarked MAX_LEVEL v.lines h.0) (sym c.self.view_is) h.1))),
    )
