-- Definitions, then theorems.
pub mod Joining
pub mod Rows
pub mod Lines
pub mod Deciding
pub mod Satisfaction
pub mod Tabled
pub mod Written
pub mod Theorem
pub mod Worked
