-- The words of the contracts of this crate.
pub use Rattle.life_base.specs.declared.cell.TheConstants.{MAX_LEVEL}
pub use Rattle.life_pattern.specs.Laws.{BlankOutside, CentredSquaresTellCells, FaultsAreUnique, FilesAreOnPlane, FilesAreUnique}
pub use Rattle.life_pattern.specs.Laws.{FormatsDiffer, PatternsFit, PatternsStay, PatternsTellFiles}
pub use Rattle.life_pattern.specs.Laws.{RefusalsHaveKinds, SquaresAreCentred}
pub use Rattle.life_pattern.specs.Universe.{least_level}
pub use Rattle.life_quad.specs.Laws.{TrimmingIgnoresGrowth}
