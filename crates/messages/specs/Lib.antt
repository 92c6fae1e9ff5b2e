pub mod Header
pub mod Vote
pub mod Certificate
pub mod Strings
pub mod Answers
pub mod Sample
