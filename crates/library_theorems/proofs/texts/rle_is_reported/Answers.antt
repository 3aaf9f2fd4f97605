use Rattle.library_theorems.proofs.Reworded.{reworded, rle_so, unwritten}
use Rattle.library_theorems.proofs.texts.rle_is_reported.Goals as goal

pub returns : goal.returns
returns c = reworded c.to_rle.ensures.answers (rle_so c.args.file.now) (unwritten c.args.options.limit c.args.file.now)
