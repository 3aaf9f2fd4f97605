use Rattle.std.proofs.Common.{◌++◌, ap, flat_map}
use Rattle.std.proofs.lemmas.Result.{err_from_is_err_and}
use Rattle.life_mc.specs.Writing.{node_text}
use Rattle.life_writer.specs.Listing.{lines_for, listed_squares}
use Rattle.life_pattern.specs.Universe.{least_level}
use Rattle.life_writer.proofs.PieceFacts.{part-reported}
use Rattle.life_writer.proofs.writer.deliver_squares.Goals as goal

pub returns-in_err-walk_pattern-clause-text : goal.returns-in_err-walk_pattern-clause-text
returns-in_err-walk_pattern-clause-text g c =
    let p = err_from_is_err_and c.from_residual.result c.from_residual.ensures.1 in
    rw p.1 (rw c.new-piece.ensures.text at c.in_err-walk_pattern.ensures.broke.prefix)

pub returns-clause-text : goal.returns-clause-text
returns-clause-text g c =
    let all = lines_for c.args.pattern.now.rule
    (listed_squares (g.S.Squares.content c.args.squares.now c.args.pattern.now.root) (least_level c.args.pattern.now.rule)) in
    part-reported _ _ _ _ c.in_ok-walk_pattern.ensures.took.text (g.W.Sink.contents c.deliver.new.writer) _ c.deliver.result
    (ap (λ l. l ++ flat_map node_text all) c.new-piece.ensures.text) (rw c.text.ensures at c.deliver.ensures.text)
