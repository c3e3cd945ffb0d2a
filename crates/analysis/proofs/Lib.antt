pub mod Truth
pub mod Exact
