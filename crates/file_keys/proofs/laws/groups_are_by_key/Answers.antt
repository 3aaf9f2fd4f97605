use Rattle.file_keys.proofs.GroupLaws as law
use Rattle.file_keys.proofs.laws.groups_are_by_key.Goals as goal

pub returns : goal.returns
returns c = law.groups_are_by_key
