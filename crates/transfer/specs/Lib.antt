-- Definitions, then theorems.
pub mod Transfer
pub mod Columns
pub mod Worked
pub mod ThereAndBack
pub mod Theorem
