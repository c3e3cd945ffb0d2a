pub mod Numbers
pub mod Ahead
pub mod Bindings
pub mod State
pub mod Sources
pub mod Expressions
