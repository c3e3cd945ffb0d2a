pub mod Holding
pub mod Passing
pub mod Masking
