pub mod BadRuns
pub mod Claims
