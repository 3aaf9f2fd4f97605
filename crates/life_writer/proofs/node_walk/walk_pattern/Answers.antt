use Rattle.std.proofs.Common.{ap, arith, map}
use Rattle.std.proofs.lemmas.Result.{err_from_is_err_and}
use Rattle.life_writer.specs.Walking.{seen_in}
use Rattle.life_writer.proofs.WalkingFacts.{none-numbered, root-high, whole-consumed, whole-broken}
use Rattle.life_writer.proofs.node_walk.walk_pattern.Goals as goal

pub walk_square-requires-clause-square : goal.walk_square-requires-clause-square
walk_square-requires-clause-square g c = record {
  known = c.requires.root.known;
  level = c.level-level.ensures;
  high = root-high c.args.pattern.now.rule _ (rw c.level-level.ensures c.requires.root.level);
  states = c.requires.root.states;
  numbers = rw c.requires.none (λ k d l. absurd (omega arith));
  closed = none-numbered c.args.pattern.now.rule _
      (ap (map (seen_in (g.O.Orientation.seen c.args.orientation.now) (g.S.Squares.content c.args.squares.now))) c.requires.none);
}

pub returns-in_err-walk_square-clause-broke : goal.returns-in_err-walk_square-clause-broke
returns-in_err-walk_square-clause-broke g c =
    let p = err_from_is_err_and c.from_residual.result c.from_residual.ensures.1 in
    let answer = whole-broken g.L.LineSink.took g.L.LineSink.broke c.args.pattern.now.rule
    (g.O.Orientation.seen c.args.orientation.now (g.S.Squares.content c.args.squares.now c.args.pattern.now.root))
    _ _ _ (ap (map (seen_in (g.O.Orientation.seen c.args.orientation.now) (g.S.Squares.content c.args.squares.now))) c.requires.none)
    (g.met.L.LineSink.begins _) c.in_err-walk_square.ensures.walked.part in
    rw p.1 answer

pub returns-clause-took : goal.returns-clause-took
returns-clause-took g c =
    whole-consumed g.L.LineSink.took g.L.LineSink.broke c.args.pattern.now.rule
    (g.O.Orientation.seen c.args.orientation.now (g.S.Squares.content c.args.squares.now c.args.pattern.now.root)) _ _ _
    (ap (map (seen_in (g.O.Orientation.seen c.args.orientation.now) (g.S.Squares.content c.args.squares.now))) c.requires.none)
    (g.met.L.LineSink.begins _) _
    c.in_ok-walk_square.ensures.walked.wrote.walked c.in_ok-walk_square.ensures.walked.wrote.lines
