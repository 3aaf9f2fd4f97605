use Rattle.std.proofs.Common.{[], ◌++◌, ap, ◌∙◌, append-nil}
use Rattle.file_hints.specs.Damage.{warning_of}
use Rattle.file_hints.proofs.watch.warning_of.Goals as goal

pub returns : goal.returns
returns c =
    let bytes = c.args.bytes.now in
    c.warning.ensures ∙ c.after.ensures [] ∙ c.new.ensures (bytes ++ []) ∙ ap warning_of (append-nil bytes)
