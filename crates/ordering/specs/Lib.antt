pub mod Answers
pub mod Start
