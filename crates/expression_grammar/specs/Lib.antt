pub mod Kinds
pub mod Reading
pub mod Grammar
pub mod Laws
