use Rattle.claims.proofs.Tables.Read as law
use Rattle.claims.proofs.laws.tables_refuse.Goals as goal

pub returns : goal.returns
returns c = law.tables_refuse
