pub mod Shortages
pub mod Loans
