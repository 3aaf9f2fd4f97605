-- The words of the contracts of this crate.
pub use Rattle.life_next.specs.Counts.{count_at, counted_in, neighbours_in, sides_in}
pub use Rattle.life_next.specs.Generation.{live_in, next_by_count}
pub use Rattle.std.specs.Int.{bit_at}
