pub mod Names
pub mod Grammar
pub mod Tests
pub mod Combinators
pub mod Reading
pub mod Laws
pub mod Examples
