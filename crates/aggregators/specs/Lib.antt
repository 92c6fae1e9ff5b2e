pub mod Weight
pub mod Tallies
pub mod Listed
pub mod Votes
pub mod Certificates
