use Rattle.std.proofs.Common.{rules}
use Rattle.life_base.proofs.line.line_fits.Goals as goal

pub returns-then-kept-longest : goal.returns-then-kept-longest
returns-then-kept-longest c = search rules
