-- Definitions, then theorems.
pub mod Sheet
pub mod Table
pub mod Deciding
pub mod Promises
pub mod Written
pub mod Due
pub mod TableLaws
pub mod LaidLines
pub mod Fits
pub mod ReadBack
pub mod Worked
