use Rattle.life_pattern.proofs.ReadFacts.{read-equal, same-read}
use Rattle.life_pattern.proofs.laws.patterns_tell_files.Goals as goal

pub returns : goal.returns
returns c = λ first second store a b p q. (λ h. same-read first second store a b p q h.0 h.1 h.2, read-equal first second store a b p q)
