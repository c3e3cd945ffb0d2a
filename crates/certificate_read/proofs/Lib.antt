pub mod Answered
pub mod Moving
