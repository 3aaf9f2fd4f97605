use Rattle.std.specs.Char.{is_ascii_digit}
use Rattle.file_hints.proofs.Counts.{shorter}
use Rattle.file_hints.proofs.rle_watch.digits_start.Goals as goal

pub returns-clause-inside : goal.returns-clause-inside
returns-clause-inside c = rw c.before_last_digits.ensures (shorter is_ascii_digit c.args.text.now)
