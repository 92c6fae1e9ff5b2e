-- Document 01's ordering: the table, the leaders and their candidate rounds, the walk, the listing, the order; and runs of four members.
pub mod Among
pub mod Table
pub mod Leaders
pub mod Candidates
pub mod Walk
pub mod Listing
pub mod Order
pub mod Sample
