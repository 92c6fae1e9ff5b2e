-- The laws of `specs/`: `Weights` of counting, `Listing` of lists in bytes, `Voting` of votes; of certificates `Counting` what is read,
-- `Giving` what is written, `Certifying` the call. `Runs`: what a call leaves. `Same`: each promise allows one result. `Examples`: runs.
pub mod Weights
pub mod Listing
pub mod Voting
pub mod Counting
pub mod Giving
pub mod Certifying
pub mod Runs
pub mod Same
pub mod Examples
