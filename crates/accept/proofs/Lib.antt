pub mod Shaping
pub mod Settling
pub mod Committing
pub mod Outcomes
pub mod Holding
pub mod Bytes
pub mod Taking
