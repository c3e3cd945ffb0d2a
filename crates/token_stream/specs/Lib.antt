pub mod Streams
pub mod Computed
