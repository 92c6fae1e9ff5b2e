pub mod Answers
pub mod Header
pub mod Vote
pub mod Certificate
