-- P1 to P11 of document 01 hold; and demand 3.
pub mod Document
pub mod Due
pub mod Between
pub mod Cleared
pub mod Turn
pub mod Start
pub mod Call
pub mod Run
