pub mod Programs
pub mod Codes
pub mod Rule
pub mod Meaning
pub mod Claims
