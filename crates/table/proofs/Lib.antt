-- The laws of `specs/Rows.antt`, and examples of it.
pub mod Laws
pub mod Examples
