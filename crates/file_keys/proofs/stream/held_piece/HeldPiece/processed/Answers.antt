use Rattle.std.proofs.Common.{◌∙◌, Some, ap, false, refl}
use Rattle.file_hints.specs.Refused.{foreign_at_start}
use Rattle.file_keys.specs.Stream.{warning_with}
use Rattle.file_keys.proofs.StreamLemmas.{too_long_piece, whole_piece, whole_warning}
use Rattle.file_keys.proofs.stream.held_piece.HeldPiece.processed.Goals as goal

pub returns-then-self-2 : goal.returns-then-self-2
returns-then-self-2 c = λ piece holds. (
  too_long_piece c.args.form c.args.self.now piece _ holds c.if-self.false c.if-self-2.true c.of-fault.ensures
      (c.recognize-foreign.ensures ∙ ap (foreign_at_start false) c.as_slice-bytes.ensures.value),
  refl,
)

pub returns : goal.returns
returns c = λ piece holds. (
  whole_piece c.args.form c.args.self.now piece c.recognize-foreign.result _ c.source_outcome-outcome.result holds c.if-self.false c.if-self-2.false
      (c.recognize-foreign.ensures ∙ ap (foreign_at_start false) c.as_slice-bytes.ensures.value)
      (ap Some (c.new-source.ensures ∙ c.as_slice-bytes.ensures.value)) refl c.source_outcome-outcome.ensures,
  c.warning_on-warning.ensures ∙ ap (warning_with c.source_outcome-outcome.result) c.as_slice-bytes.ensures.value
      ∙ whole_warning c.args.self.now piece c.source_outcome-outcome.result holds c.if-self.false c.if-self-2.false,
)
