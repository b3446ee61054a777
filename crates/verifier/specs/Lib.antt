-- The theorem.
pub mod Answers
