-- The words of the contracts of this crate.
pub use Rattle.life_lanes.specs.Places.{exchanged, place_in_leaf}
pub use Rattle.std.specs.Int.{bit_at}
pub use Rattle.std.specs.Int.Bits.{bit_and}
