-- Definitions, then theorems.
pub mod Answers
