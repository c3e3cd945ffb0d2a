pub mod Commands
pub mod Rows
pub mod Arms
