-- Definitions.
pub mod Factors
pub mod Buffers
