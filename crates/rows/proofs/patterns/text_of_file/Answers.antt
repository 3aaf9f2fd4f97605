use Rattle.life_pattern.proofs.Fits.{read-fits}
use Rattle.rows.proofs.patterns.text_of_file.Goals as goal

pub text_of_pattern-requires-clause-trimmed : goal.text_of_pattern-requires-clause-trimmed
text_of_pattern-requires-clause-trimmed c = read-fits _ _ _ c.in_ok-pattern.ensures.pattern

pub text_of_pattern-requires-clause-file : goal.text_of_pattern-requires-clause-file
text_of_pattern-requires-clause-file c = (c.args.file.now, c.in_ok-pattern.ensures.pattern)
