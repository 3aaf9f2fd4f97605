use Rattle.file_keys.proofs.KeyLines.{escaped_behind}
use Rattle.file_keys.proofs.keys.lines.first_piece.Goals as goal

pub returns-in_default-clause-piece : goal.returns-in_default-clause-piece
returns-in_default-clause-piece c = escaped_behind c.args.name.now c.plain_prefix.result c.plain_prefix.ensures.plain
