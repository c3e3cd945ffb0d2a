pub mod Cases
pub mod Exact
