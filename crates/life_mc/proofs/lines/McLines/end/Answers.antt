use Rattle.std.proofs.Common.{◌≡◌, ℕ, true, false, List, subst, ◌∙◌, Option, Some, None, MatchOption, IfOk}
use Rattle.std.specs.Option.{ok_or}
use Rattle.life_base.specs.declared.cell.TheConstants.{MAX_LEVEL}
use Rattle.life_base.specs.declared.kind.Kind.TheVariants.{NoHeader}
use Rattle.life_base.specs.declared.rule.Rule.{Rule}
use Rattle.life_mc.specs.Grammar.{IsPlainMacrocell}
use Rattle.life_mc.specs.Macrocell.{Macrocell}
use Rattle.life_base.specs.Lines.{LinesRead}
use Rattle.life_mc.specs.Standing.{Standing, StandsAfter}
use Rattle.life_mc.proofs.LinesConsumed.{file_said}
use Rattle.life_mc.proofs.lines.McLines.end.Goals as goal

abbrev IsEnd : List (List ℕ) → Rule × ℕ → Type 0
IsEnd lines found = (file : Macrocell) × IsPlainMacrocell MAX_LEVEL lines file × (found.0 ≡ file.rule) × (found.1 ≡ file.generation)

ended : (o : Option (Rule × ℕ)) (lines : List (List ℕ)) (state : Standing) → StandsAfter MAX_LEVEL lines state
    → MatchOption o (state.started ≡ false) (λ found. (state.started ≡ true) × (found.0 ≡ state.rule) × (found.1 ≡ state.generation))
    → IfOk (ok_or o NoHeader) (IsEnd lines)
ended None lines state s h = tt
ended (Some found) lines state s h = let f = file_said MAX_LEVEL lines state s h.0 in (f.0, f.1, h.1 ∙ f.2, h.2 ∙ f.3)

pub returns-clause-file : goal.returns-clause-file
returns-clause-file c =
    let inside = c.self.inside in
    rw c.ok_or.ensures.value
    (subst (λ (v : LinesRead). IfOk (ok_or c.rule_and_generation.result NoHeader) (IsEnd v.lines)) c.self.view_is
    (ended c.rule_and_generation.result inside.log.lines inside.kept (c.self.invariant c.if-self.false) c.rule_and_generation.ensures))
