-- The words of the contracts of this crate.
pub use Rattle.claims.specs.ByTable.{IsClaimedStepBy, IsUnsteppedBy}
pub use Rattle.claims.specs.Counting.{IsCanonicalText, claimed_node_lines}
pub use Rattle.claims.specs.Files.{claimed_fault_of, pattern_of, SayOnePattern}
pub use Rattle.claims.specs.Generation.{IsClaimedStep, IsUnstepped}
pub use Rattle.claims.specs.Pattern.{Pattern}
pub use Rattle.generation_theorems.specs.ManyGenerations.{IsClaimedTextLater, IsNotAdvanced}
pub use Rattle.claims.specs.Shown.{IsClaimedShown}
pub use Rattle.claims.specs.Table.{Table, table_of}
pub use Rattle.library_calls.specs.Outputs.{IsOutputText}
pub use Rattle.library_calls.specs.Streams.{IsFed, IsOpenStream, session_of}
pub use Rattle.library_calls.specs.Reported.{Returns, ReturnsText, ReturnsFault}
pub use Rattle.library_calls.specs.declared.texts.Output.{Output as OutputValue}
pub use Rattle.life_base.specs.declared.form.Form.{Form as FormValue}
pub use Rattle.library_theorems.specs.Answered.{AreFiveLines, IsClaimedRleText, IsClaimedUnread, IsUnreadWithin, IsUnwritten, IsShortageBelow, squares_for}
pub use Rattle.library_theorems.specs.Ending.{IsEndFault}
pub use Rattle.life_base.specs.Kinds.{kind_number}
pub use Rattle.life_base.specs.declared.fault.Fault.{Fault}
pub use Rattle.theorems.specs.Joined.{all_bytes}
