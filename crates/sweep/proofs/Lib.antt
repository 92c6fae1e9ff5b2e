-- The laws of `specs/Kept.antt`: `Laws` for any loop that keeps rows, and examples.
pub mod Laws
pub mod Examples
