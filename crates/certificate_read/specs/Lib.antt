pub mod Views
pub mod Moves
