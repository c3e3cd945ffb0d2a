pub mod Holders
pub mod Walks
pub mod Masked
pub mod Example
