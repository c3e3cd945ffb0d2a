pub mod Characters
pub mod Spelling
pub mod Tokens
pub mod Refusals
pub mod Lexing
