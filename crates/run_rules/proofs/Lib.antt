pub mod Order
pub mod Clean
pub mod Front
pub mod Paths
pub mod Judged
pub mod Encoding
pub mod Accepted
pub mod Walks
