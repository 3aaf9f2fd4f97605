use Rattle.std.proofs.Common.{subst}
use Rattle.life_base.specs.declared.cell.TheConstants.{MAX_LEVEL}
use Rattle.life_rle.specs.declared.lines.Phase.TheVariants as phases
use Rattle.life_rle.specs.Standing.{StandsAt}
use Rattle.life_rle.specs.Position.{default_position}
use Rattle.life_rle.specs.Grammar.{IsPreamble}
use Rattle.life_base.specs.Lines.{LinesRead}
use Rattle.life_rle.proofs.lines.RleLines.finish.Goals as goal

pub returns-in-Before-clause-missing : goal.returns-in-Before-clause-missing
returns-in-Before-clause-missing c = λ _.
    let cursor = c.self.inside.cursor in
    let lines = c.self.inside.log.lines in
    let s : StandsAt MAX_LEVEL (phases.Before c.in-Before.field-0) cursor lines = subst (λ p. StandsAt MAX_LEVEL p cursor lines) c.in-Before.is
    c.self.invariant in
    (c.in-Before.field-0, subst (λ (ls : LinesRead). IsPreamble MAX_LEVEL default_position ls.lines c.in-Before.field-0) c.self.view_is s.1)
