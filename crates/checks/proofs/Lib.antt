pub mod Laws
pub mod Votes
pub mod Same
pub mod Examples
