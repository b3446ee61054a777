-- Definitions, then theorems.
pub mod Accepted
pub mod Scans
pub mod Buffers
