pub mod Halving
pub mod Rows
