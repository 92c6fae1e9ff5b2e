pub mod Picked
pub mod Parents
pub mod Payload
pub mod Known
pub mod Answers
