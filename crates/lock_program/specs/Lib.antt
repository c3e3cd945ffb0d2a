pub mod Storage
pub mod Denotes
pub mod Sounds
pub mod Laws
pub mod Building
