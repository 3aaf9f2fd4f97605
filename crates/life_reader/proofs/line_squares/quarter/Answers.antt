use Rattle.life_reader.proofs.FillFacts.{has-id, some-of}
use Rattle.life_reader.proofs.line_squares.quarter.Goals as goal

pub returns-clause-known : goal.returns-clause-known
returns-clause-known g c =
    let q = c.requires.quarter in
    (has-id (g.S.Squares.knows c.args.squares.now) (g.S.Squares.content c.args.squares.now) q.1.0 q.0 c.args.ids.now c.args.level c.args.number _
    (some-of c.args.level c.if-level-eq0.false) (some-of c.args.number c.if-number-eq0.false) q.1.1 q.2).known

pub returns-clause-level : goal.returns-clause-level
returns-clause-level g c =
    let q = c.requires.quarter in
    (has-id (g.S.Squares.knows c.args.squares.now) (g.S.Squares.content c.args.squares.now) q.1.0 q.0 c.args.ids.now c.args.level c.args.number _
    (some-of c.args.level c.if-level-eq0.false) (some-of c.args.number c.if-number-eq0.false) q.1.1 q.2).level_of_it

pub returns-clause-square : goal.returns-clause-square
returns-clause-square g c = λ lines rule h s.
    (has-id (g.S.Squares.knows c.args.squares.now) (g.S.Squares.content c.args.squares.now) rule lines c.args.ids.now c.args.level c.args.number _
    (some-of c.args.level c.if-level-eq0.false) (some-of c.args.number c.if-number-eq0.false) h s).square
