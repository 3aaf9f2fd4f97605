use Rattle.claims.proofs.Tables.Read as law
use Rattle.claims.proofs.laws.tables_read.Goals as goal

pub returns : goal.returns
returns c = law.tables_read
