use Rattle.life_table.proofs.Grammars as law
use Rattle.life_table.proofs.laws.grammars_agree.Goals as goal

pub returns : goal.returns
returns c = law.grammars_agree
