use Rattle.std.proofs.Common.{true, false}
use Rattle.file_keys.proofs.KeyLemmas.{comes_as_hashed}
use Rattle.file_keys.proofs.keys.hashed_text.Goals as goal

pub returns-then-form : goal.returns-then-form
returns-then-form g c = comes_as_hashed _ c.args.form _ c.start_text_of_source.result true c.if-form.true c.start_text_of_source.ensures

pub returns-else-form : goal.returns-else-form
returns-else-form g c = comes_as_hashed _ c.args.form _ c.text_of_source.result false c.if-form.false c.text_of_source.ensures
