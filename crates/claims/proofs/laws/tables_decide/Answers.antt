use Rattle.claims.proofs.Tables.Decided as law
use Rattle.claims.proofs.laws.tables_decide.Goals as goal

pub returns : goal.returns
returns c = law.tables_decide
