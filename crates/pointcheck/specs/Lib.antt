-- Definitions, then theorems.
pub mod Promises
pub mod Buffers
pub mod AtZeta
pub mod Verdicts
