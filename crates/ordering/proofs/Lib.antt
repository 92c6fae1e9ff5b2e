-- The laws of `specs/`: `Examples` run them, `Replies` are those of `Answers`, `Zeros` of bytes that are 0, `Beginning` of `Start`, as the code
-- takes its steps, `Bridge` of what a start leaves, as the ordering's definitions have it; `Same`: a promise allows one result.
pub mod Examples
pub mod Replies
pub mod Zeros
pub mod Beginning
pub mod Bridge
pub mod Same
