pub mod Shapes
pub mod Marks
pub mod One
pub mod Runs
