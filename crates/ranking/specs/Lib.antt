pub mod Fits
pub mod Ranking
