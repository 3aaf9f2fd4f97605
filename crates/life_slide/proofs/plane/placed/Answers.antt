use Rattle.std.proofs.Common.{rules}
use Rattle.life_slide.proofs.plane.placed.Goals as goal

pub returns-then-from-lt0-clause-first : goal.returns-then-from-lt0-clause-first
returns-then-from-lt0-clause-first c = search rules
