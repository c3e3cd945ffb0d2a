pub mod Digits
pub mod Remainders
pub mod Rules
pub mod Laws
pub mod Props
pub mod Operands
