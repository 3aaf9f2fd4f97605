-- The words of the contracts of this crate.
pub use Rattle.claims.specs.Counting.{claimed_node_lines}
pub use Rattle.claims.specs.Files.{pattern_of, SayOnePattern}
pub use Rattle.claims.specs.Pattern.{Pattern}
pub use Rattle.claims.specs.Shown.{IsClaimedShown}
pub use Rattle.life_base.specs.declared.form.Form.{Form as FormValue}
pub use Rattle.program_theorems.specs.Forms.{SameIn}
pub use Rattle.program_theorems.specs.Jobs.{IsOutcome, HasClaimedSecond, DeviceHolds, IsGiven, IsRefused, IsShortFile, WritesCanonical}
pub use Rattle.program_theorems.specs.Layers.{LayersAgree}
