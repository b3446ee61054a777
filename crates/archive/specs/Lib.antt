-- Definitions, then theorems.
pub mod Printed
pub mod Lines
pub mod Work
pub mod Deposit
pub mod Sheets
pub mod Fits
