-- The words of the contracts of this crate.
pub use Rattle.claims.specs.Counting.{IsCanonicalText, claimed_node_lines}
pub use Rattle.claims.specs.Files.{claimed_fault_of, IsShortage, pattern_of, SayOnePattern}
pub use Rattle.claims.specs.Generation.{SaysMoreCells}
pub use Rattle.claims.specs.Pattern.{Pattern}
pub use Rattle.claims.specs.Shown.{IsClaimedShown}
pub use Rattle.life_base.specs.Text.{begins_with}
pub use Rattle.life_base.specs.declared.cell.TheConstants.{MAX_LEVEL}
pub use Rattle.life_writer.specs.Texts.{IsCanonical}
pub use Rattle.life_quad.specs.Store.{stored_squares}
pub use Rattle.theorems.specs.Joined.{all_bytes}
pub use Rattle.theorems.specs.Patterns.{IsRleOfFile, IsTextOfFile, PatternsHaveFiles, PatternsOfFilesFit}
pub use Rattle.theorems.specs.Streams.{IsStreamFault}
