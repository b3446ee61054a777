-- Definitions, then theorems.
pub mod Promises
pub mod Buffers
pub mod Chain
pub mod Refusals
pub mod FiveProved
