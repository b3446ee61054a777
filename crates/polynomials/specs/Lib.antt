-- Definitions, then theorems.
pub mod Products
