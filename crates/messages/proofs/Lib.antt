pub mod Laws
pub mod Writing
pub mod Replies
pub mod Same
pub mod Examples
