pub mod Bytes
pub mod Items
