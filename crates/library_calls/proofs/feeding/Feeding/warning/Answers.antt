use Rattle.std.proofs.Common.{◌≡◌, [], ap, ◌∙◌, append-nil, subst}
use Rattle.file_hints.specs.Damage.{warning_of}
use Rattle.library_calls.specs.Outputs.{Piecewise}
use Rattle.library_calls.proofs.feeding.Feeding.warning.Goals as goal

pub returns : goal.returns
returns c =
    subst (λ (v : Piecewise). c.warning.result ≡ warning_of v.bytes) c.self.view_is
    (c.warning.ensures ∙ c.self.invariant.3 [] ∙ ap warning_of (append-nil c.self.inside.reader.bytes))
