-- The laws of `specs/`: `Laws` of those of `Bytes`, `Std` of what std says in their words, `Lists` of those of `Items`; `Chains` of chains of
-- iterators over items.
pub mod Laws
pub mod Std
pub mod Lists
pub mod Chains
