pub mod Turning
pub mod Serving
pub mod Lending
