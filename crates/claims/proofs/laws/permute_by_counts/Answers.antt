use Rattle.claims.proofs.Tables.ByCounts as law
use Rattle.claims.proofs.laws.permute_by_counts.Goals as goal

pub returns : goal.returns
returns c = law.permute_by_counts
