pub mod Lasso
