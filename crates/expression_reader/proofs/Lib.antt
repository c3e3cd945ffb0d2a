pub mod Ahead
pub mod Values
pub mod Readings
pub mod Entries
