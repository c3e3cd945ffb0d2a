pub mod Facts
pub mod Sound
pub mod Complete
pub mod Local
