pub mod Waiting
pub mod Produced
pub mod Rounds
pub mod Ranking
pub mod Tables
pub mod Listing
pub mod Claims
