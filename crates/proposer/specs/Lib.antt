pub mod Sorted
pub mod State
pub mod Header
pub mod Events
pub mod Start
