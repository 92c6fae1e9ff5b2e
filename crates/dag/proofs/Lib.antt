pub mod Piling
pub mod Going
pub mod Placing
pub mod Listed
