use Rattle.life_phase_forms.proofs.texts.tests.compare.Goals as goal

pub are_phases-requires-clause-a : goal.are_phases-requires-clause-a
are_phases-requires-clause-a c =
    (c.args.first.now, c.patterns_stay.ensures _ _ _ _ c.in_ok-other.ensures.reads.keeps c.in_ok-one.ensures.pattern)
