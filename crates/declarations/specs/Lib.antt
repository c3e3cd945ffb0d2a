pub mod Shape
pub mod Frames
