-- Definitions, then theorems.
pub mod Text
pub mod Decimal
pub mod ReadBack
pub mod Puts
