-- The laws of `specs/`: `Examples` run them, `Splices` are those of writing parts, `Order` and `Once` of `Sorted`, `Values` of `State`, `Making` of
-- `Header`, `Meaning` of what the steps leave, as values, `Reading` of the header read back, `Outcomes` of `Events`, `Beginning` of `Start`; `Same`: a promise allows one result.
pub mod Examples
pub mod Splices
pub mod Order
pub mod Once
pub mod Values
pub mod Making
pub mod Meaning
pub mod Reading
pub mod Outcomes
pub mod Beginning
pub mod Same
