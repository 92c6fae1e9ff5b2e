-- What a setup agrees on, the marks of a link test, and the rounds of the leaders taken.
pub mod Setup
pub mod Fronts
pub mod Taking
