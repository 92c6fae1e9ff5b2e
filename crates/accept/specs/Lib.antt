pub mod Shape
pub mod Course
pub mod Commits
pub mod Accept
