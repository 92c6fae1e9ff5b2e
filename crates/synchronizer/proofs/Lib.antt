-- The laws of `specs/`: `Picking` of those of `Picked`, `Laws` of those of `Parents`, `Payload` and `Known`, `Replies` of those of `Answers`.
pub mod Picking
pub mod Laws
pub mod Replies
pub mod Same
