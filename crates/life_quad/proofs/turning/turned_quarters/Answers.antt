use Rattle.std.proofs.Common.{true, false}
use Rattle.life_quad.proofs.TurningLemmas.{turned-quarters}
use Rattle.life_quad.proofs.turning.turned_quarters.Goals as goal

pub returns-then-turn-3 : goal.returns-then-turn-3
returns-then-turn-3 c = turned-quarters c.args.turn true true true c.if-turn.true c.if-turn-2.true c.if-turn-3.true

pub returns-else-turn-3 : goal.returns-else-turn-3
returns-else-turn-3 c = turned-quarters c.args.turn true true false c.if-turn.true c.if-turn-2.true c.if-turn-3.false

pub returns-then-turn-4 : goal.returns-then-turn-4
returns-then-turn-4 c = turned-quarters c.args.turn true false true c.if-turn.true c.if-turn-2.false c.if-turn-4.true

pub returns-else-turn-4 : goal.returns-else-turn-4
returns-else-turn-4 c = turned-quarters c.args.turn true false false c.if-turn.true c.if-turn-2.false c.if-turn-4.false

pub returns-then-turn-6 : goal.returns-then-turn-6
returns-then-turn-6 c = turned-quarters c.args.turn false true true c.if-turn.false c.if-turn-5.true c.if-turn-6.true

pub returns-else-turn-6 : goal.returns-else-turn-6
returns-else-turn-6 c = turned-quarters c.args.turn false true false c.if-turn.false c.if-turn-5.true c.if-turn-6.false

pub returns-then-turn-7 : goal.returns-then-turn-7
returns-then-turn-7 c = turned-quarters c.args.turn false false true c.if-turn.false c.if-turn-5.false c.if-turn-7.true

pub returns-else-turn-7 : goal.returns-else-turn-7
returns-else-turn-7 c = turned-quarters c.args.turn false false false c.if-turn.false c.if-turn-5.false c.if-turn-7.false
