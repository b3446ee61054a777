-- Definitions, then theorems.
pub mod Promises
pub mod Buffers
