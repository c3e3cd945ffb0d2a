pub mod Certificate
pub mod Rule
pub mod Claims
