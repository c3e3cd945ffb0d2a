pub mod Masks
pub mod Decided
pub mod Holders
