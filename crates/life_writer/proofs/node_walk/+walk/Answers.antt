use Rattle.std.proofs.Common.{map, sym, ◌∙◌}
use Rattle.life_writer.specs.Walking.{seen_in}
use Rattle.life_writer.proofs.WalkingFacts.{takes-none, known-skip, absent-keys, refused-first, walked-leaf, refused-nw, refused-ne, refused-sw, refused-se, refused-own, absent-own, walked-own}
use Rattle.life_writer.proofs.node_walk.+walk.Goals as goal

pub walk_square-returns-in-Some-clause-walked : goal.walk_square-returns-in-Some-clause-walked
walk_square-returns-in-Some-clause-walked g t c =
    let took = g.L.LineSink.took in
    let content = seen_in (g.O.Orientation.seen c.args.orientation.now) (g.S.Squares.content c.args.squares.now) in
    let old = map content c.args.numbers.now.ids in
    record {
      wrote = record {
        walked = known-skip c.args.rule.now old (content c.args.id) c.requires.square.closed c.in-Some.ensures.there;
        lines = takes-none took c.args.rule.now old;
      };
      number = c.in-Some.ensures.number;
      part = tt;
      numbers = c.requires.square.numbers;
      closed = c.requires.square.closed;
    }

pub walk_new_square-returns-in_err-take_leaf-clause-walked : goal.walk_new_square-returns-in_err-take_leaf-clause-walked
walk_new_square-returns-in_err-take_leaf-clause-walked g t c =
    refused-first _ _ c.from_residual-in_err-take_leaf.ensures.1 c.in_err-take_leaf.ensures.broke

pub walk_new_square-returns-in_err-number-clause-walked : goal.walk_new_square-returns-in_err-number-clause-walked
walk_new_square-returns-in_err-number-clause-walked g t c = refused-first _ _ c.from_residual.ensures.1 (g.met.L.LineSink.stops _ c.requires.ready)

pub walk_new_square-push-requires : goal.walk_new_square-push-requires
walk_new_square-push-requires g t c =
    absent-keys (seen_in (g.O.Orientation.seen c.args.orientation.now) (g.S.Squares.content c.args.squares.now)) c.args.id c.args.numbers.now.ids
    (λ k d l e. g.met.S.SharedSquares.same_id c.args.squares.now _ c.args.id (c.requires.square.numbers k d l) c.requires.square.known
    (g.met.O.Orientation.apart c.args.orientation.now _ _ e)) c.requires.new

pub walk_new_square-returns-then-is_leaf-clause-walked : goal.walk_new_square-returns-then-is_leaf-clause-walked
walk_new_square-returns-then-is_leaf-clause-walked g t c =
    walked-leaf c.requires.square c.requires.more (g.met.O.Orientation.full c.args.orientation.now _ (g.met.S.Squares.full _ _ c.requires.square.known))
    c.requires.new
    (sym c.is_leaf.ensures ∙ c.if-is_leaf.true) c.in_ok-number.ensures.added c.in_ok-number.ensures.number c.in_ok-take_leaf.ensures.took

pub walk_new_square-returns-in_err-nw-clause-walked : goal.walk_new_square-returns-in_err-nw-clause-walked
walk_new_square-returns-in_err-nw-clause-walked g t c =
    refused-nw c.requires.square c.requires.more c.quarters.ensures.square c.in_err-nw.ensures.walked c.from_residual-in_err-nw.ensures.1

pub walk_new_square-returns-in_err-ne-clause-walked : goal.walk_new_square-returns-in_err-ne-clause-walked
walk_new_square-returns-in_err-ne-clause-walked g t c =
    refused-ne c.requires.square c.requires.more c.quarters.ensures.square c.in_ok-nw.ensures.walked c.in_err-ne.ensures.walked
    c.from_residual-in_err-ne.ensures.1

pub walk_new_square-returns-in_err-sw-clause-walked : goal.walk_new_square-returns-in_err-sw-clause-walked
walk_new_square-returns-in_err-sw-clause-walked g t c =
    refused-sw c.requires.square c.requires.more c.quarters.ensures.square c.in_ok-nw.ensures.walked c.in_ok-ne.ensures.walked
    c.in_err-sw.ensures.walked c.from_residual-in_err-sw.ensures.1

pub walk_new_square-returns-in_err-se-clause-walked : goal.walk_new_square-returns-in_err-se-clause-walked
walk_new_square-returns-in_err-se-clause-walked g t c =
    refused-se c.requires.square c.requires.more c.quarters.ensures.square c.in_ok-nw.ensures.walked c.in_ok-ne.ensures.walked c.in_ok-sw.ensures.walked
    c.in_err-se.ensures.walked c.from_residual-in_err-se.ensures.1

pub walk_new_square-returns-in_err-take-clause-walked : goal.walk_new_square-returns-in_err-take-clause-walked
walk_new_square-returns-in_err-take-clause-walked g t c =
    refused-own c.requires.square c.requires.more c.quarters.ensures.square c.in_ok-nw.ensures.walked c.in_ok-ne.ensures.walked c.in_ok-sw.ensures.walked
    c.in_ok-se.ensures.walked _ _ c.from_residual-in_err-take.ensures.1 c.in_err-take.ensures.broke

pub walk_new_square-returns-in_err-number-2-clause-walked : goal.walk_new_square-returns-in_err-number-2-clause-walked
walk_new_square-returns-in_err-number-2-clause-walked g t c =
    refused-own c.requires.square c.requires.more c.quarters.ensures.square c.in_ok-nw.ensures.walked c.in_ok-ne.ensures.walked c.in_ok-sw.ensures.walked
    c.in_ok-se.ensures.walked _ _ c.from_residual-in_err-number-2.ensures.1 (g.met.L.LineSink.stops _ c.in_ok-se.ensures.ready)

pub walk_new_square-push-requires-2 : goal.walk_new_square-push-requires-2
walk_new_square-push-requires-2 g t c =
    absent-keys (seen_in (g.O.Orientation.seen c.args.orientation.now) (g.S.Squares.content c.args.squares.now)) c.args.id c.walk_square-4.new.numbers.ids
    (λ k d l e. g.met.S.SharedSquares.same_id c.args.squares.now _ c.args.id (c.in_ok-se.ensures.walked.numbers k d l) c.requires.square.known
    (g.met.O.Orientation.apart c.args.orientation.now _ _ e))
    (absent-own c.requires.square c.requires.more c.quarters.ensures.square c.in_ok-nw.ensures.walked c.in_ok-ne.ensures.walked
    c.in_ok-sw.ensures.walked c.in_ok-se.ensures.walked
    (g.met.O.Orientation.full c.args.orientation.now _ (g.met.S.Squares.full _ _ c.requires.square.known)) c.requires.new)

pub walk_new_square-returns-clause-walked : goal.walk_new_square-returns-clause-walked
walk_new_square-returns-clause-walked g t c =
    walked-own c.requires.square c.requires.more c.quarters.ensures.square c.in_ok-nw.ensures.walked c.in_ok-ne.ensures.walked c.in_ok-sw.ensures.walked
    c.in_ok-se.ensures.walked
    (g.met.O.Orientation.full c.args.orientation.now _ (g.met.S.Squares.full _ _ c.requires.square.known)) c.requires.new
    (sym c.is_leaf.ensures ∙ c.if-is_leaf.false)
    c.in_ok-number-2.ensures.added c.in_ok-number-2.ensures.number c.in_ok-take.ensures.took
