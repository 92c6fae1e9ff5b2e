pub mod Members
pub mod Committee
pub mod Answers
pub mod Sample
