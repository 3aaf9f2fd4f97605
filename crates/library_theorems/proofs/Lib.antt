mod LimitFacts
mod Reworded
mod Pieces
