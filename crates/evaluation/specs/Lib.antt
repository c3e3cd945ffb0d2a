pub mod Postfix
