use Rattle.std.proofs.Common.{refl}
use Rattle.life_pattern.proofs.ReadFacts.{root-deep}
use Rattle.life_pattern.proofs.Fits.{read-fits}
use Rattle.life_writer.proofs.ShowFacts.{is-shown}
use Rattle.life_writer.proofs.summary.five_lines_of.Goals as goal

pub five_lines-requires-clause-trimmed : goal.five_lines-requires-clause-trimmed
five_lines-requires-clause-trimmed c = read-fits c.requires.0 _ _ c.requires.1

pub five_lines-requires-clause-level : goal.five_lines-requires-clause-level
five_lines-requires-clause-level c = root-deep c.requires.0 _ _ c.requires.1

pub returns-clause-text : goal.returns-clause-text
returns-clause-text c =
    let t = c.in_ok-five_lines.ensures.text in
    λ bytes r. is-shown bytes _ _ r t.0 t.1 _ _ t.2 refl
