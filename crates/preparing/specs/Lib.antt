-- Definitions, then theorems.
pub mod Promises
