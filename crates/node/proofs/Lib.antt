-- From a module's answer to the host's number, and what the promises of the entry points settle.
pub mod Laws
pub mod Same
