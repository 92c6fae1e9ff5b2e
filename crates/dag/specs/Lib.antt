pub mod Ordered
pub mod Steps
