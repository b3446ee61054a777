-- Definitions, then theorems.
pub mod Rows
pub mod Products
