use Rattle.library_calls.specs.Streams.{Feeds}
use Rattle.library_calls.proofs.StreamFacts.{through}
use Rattle.library_calls.proofs.streams.feed.Goals as goal

pub returns-clause-feeds : goal.returns-clause-feeds
returns-clause-feeds c =
    through (Feeds c.args.piece.now) c.args.stream.now.held.session c.put.new.stream.held.session c.replace-before.result c.after_piece.result
    (cc c.in-Some.ensures.consumed) (cc c.put.ensures) c.after_piece.ensures
