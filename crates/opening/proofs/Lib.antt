-- Laws that the functions' proofs cite.
pub mod Deciding
pub mod Terms
pub mod Dividing
pub mod Judging
pub mod Openings
pub mod Answers
