-- Definitions, then the theorem.
pub mod Buckets
pub mod Losses
pub mod Theorem
