-- The laws of `specs/Genesis.antt`, and examples.
pub mod Laws
pub mod Examples
