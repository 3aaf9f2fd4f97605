use Rattle.std.proofs.Common.{◌∙◌, ap}
use Rattle.sha2.specs.Sha256.{sha256}
use Rattle.file_keys.proofs.KeyLemmas.{comes_of_text, comes_placed, no_text_no_key}
use Rattle.file_keys.proofs.keys.key_of.Goals as goal

pub returns-in-Placed-false : goal.returns-in-Placed-false
returns-in-Placed-false g c = comes_placed c.args.form _ _ c.in-Placed-false.is-0 c.in-Placed-false.is-1 c.placed_key.ensures

pub returns-in-Ok : goal.returns-in-Ok
returns-in-Ok g c = comes_of_text _ c.args.form _ c.in-Ok.text _ c.in-Ok.ensures (c.digest.ensures ∙ ap sha256 c.as_slice.ensures.value)

pub returns-in-Err : goal.returns-in-Err
returns-in-Err g c = no_text_no_key _ c.args.form _ c.in-Err.fault c.in-Err.ensures
