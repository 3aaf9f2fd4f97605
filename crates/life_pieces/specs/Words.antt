-- The words of the contracts of this crate.
pub use Rattle.life_pieces.specs.Pieces.{AreFour, AreNine, AreSixteen, AreThree, eastern, first_three, four_of, ids_of_nine, InFour, InNine, InSixteen, InThree}
pub use Rattle.life_pieces.specs.Pieces.{IsOfLevel, IsWhereBinary, last_three, step_ahead, western}
pub use Rattle.life_base.specs.Tree.{point}
pub use Rattle.life_quad.specs.Store.{eight, four, two}
