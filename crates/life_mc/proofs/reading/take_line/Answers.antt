use Rattle.std.proofs.Common.{rules}
use Rattle.life_base.specs.declared.cell.TheConstants.{MAX_LEVEL}
use Rattle.life_mc.proofs.FormatLaws.{prefixes_are_unbroken}
use Rattle.life_mc.proofs.reading.take_line.Goals as goal

pub returns-in_ok-push-clause-unbroken : goal.returns-in_ok-push-clause-unbroken
returns-in_ok-push-clause-unbroken c = (prefixes_are_unbroken MAX_LEVEL c.line.new.self.lines).0 c.in_ok-square.ensures.prefix

pub returns-in_default-clause-unbroken : goal.returns-in_default-clause-unbroken
returns-in_default-clause-unbroken c = (prefixes_are_unbroken MAX_LEVEL c.line.new.self.lines).0 c.in_ok-square.ensures.prefix

pub returns-in_ok-push-clause-squares : goal.returns-in_ok-push-clause-squares
returns-in_ok-push-clause-squares c = search rules
