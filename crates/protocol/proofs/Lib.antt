-- Theorems of specs/, with their proofs.
pub mod Rows
pub mod Values
pub mod Lengths
pub mod Pairing
pub mod Challenges
pub mod Completeness
pub mod Lost
pub mod SameValues
pub mod Demand3
pub mod FiveValues
pub mod Worked
pub mod Further
