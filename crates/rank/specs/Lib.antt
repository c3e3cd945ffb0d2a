pub mod Kinds
pub mod Laws
pub mod Falling
pub mod Orders
pub mod Rows
