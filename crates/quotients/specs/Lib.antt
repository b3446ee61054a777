-- Definitions, then theorems.
pub mod Sums
pub mod Buffers
pub mod Gates
pub mod Lengths
