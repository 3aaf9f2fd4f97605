use Rattle.std.proofs.Common.{refl}
use Rattle.life_mc.specs.Writing.{header_lines_text}
use Rattle.life_writer.specs.Listing.{lines_for, listed_squares, square_text}
use Rattle.life_pattern.specs.Store.{content}
use Rattle.life_pattern.specs.Universe.{least_level}
use Rattle.life_writer.proofs.LesserFacts.{after-walk}
use Rattle.life_writer.proofs.lesser.lesser_seen_text.Goals as goal

pub returns-clause-lesser : goal.returns-clause-lesser
returns-clause-lesser g c =
    let pattern = c.args.pattern.now in
    let root = g.O.Orientation.seen c.args.orientation.now (content c.args.store.now pattern.root) in
    let squares = listed_squares root (least_level pattern.rule) in
    after-walk c.args.best.items (header_lines_text pattern.rule pattern.generation) (square_text pattern.rule pattern.generation root) _
    c.in_ok-text.text.bytes.items c.walk_pattern-walked.new.lines.bytes.items (lines_for pattern.rule squares) c.in_ok-text.text.lesser
    c.walk_pattern-walked.new.lines.lesser c.walk_pattern-walked.result c.in_ok-text.ensures.holds c.walk_pattern-walked.ensures.took
    c.walk_pattern-walked.ensures.broke c.in_ok-finish.ensures.lesser refl
