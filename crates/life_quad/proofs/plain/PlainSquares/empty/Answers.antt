use Rattle.life_quad.proofs.plain.PlainSquares.empty.Goals as goal

pub returns-clause-square : goal.returns-clause-square
returns-clause-square c = c.of_blank.ensures.square c.args.self.now

pub returns-clause-level : goal.returns-clause-level
returns-clause-level c = c.of_blank.ensures.level c.args.self.now

pub returns-clause-alone : goal.returns-clause-alone
returns-clause-alone c = c.of_blank.ensures.alone c.args.self.now
