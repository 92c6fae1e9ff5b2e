-- The laws of `specs/`: `Laws` of those of `Members` and `Committee`, `Replies` of those of `Answers`; and the limits, run.
pub mod Laws
pub mod Replies
pub mod Examples
