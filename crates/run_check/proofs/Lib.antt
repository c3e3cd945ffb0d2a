pub mod Lowest
