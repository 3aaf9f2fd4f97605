use Rattle.claims.proofs.GoesOn as law
use Rattle.claims.proofs.laws.prefixes_go_on.Goals as goal

pub returns : goal.returns
returns c = law.prefixes_go_on
