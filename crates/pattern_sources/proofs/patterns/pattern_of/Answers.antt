use Rattle.pattern_sources.proofs.SourceLemmas.{squares_of_input}
use Rattle.pattern_sources.proofs.patterns.pattern_of.Goals as goal

pub returns-clause-squares : goal.returns-clause-squares
returns-clause-squares g c =
    squares_of_input _ _ _ c.read_from-pattern.ensures.reads.reads.adds c.len.ensures.distinct (λ t is. (c.len.ensures.only t is).0)
