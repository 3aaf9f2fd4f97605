use Rattle.std.proofs.Common.{◌∙◌, ap}
use Rattle.life_base.specs.Text.{trim}
use Rattle.life_base.specs.Numbers.{u64_of}
use Rattle.life_mc.proofs.Stands.{generation_read}
use Rattle.life_mc.proofs.line.read_generation.Goals as goal

pub returns : goal.returns
returns c = generation_read (trim c.args.text.now) c.read_u64.result (c.read_u64.ensures ∙ ap u64_of c.trimmed.ensures)
