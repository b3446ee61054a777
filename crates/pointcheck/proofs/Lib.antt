-- Laws that the functions' proofs cite.
pub mod Arithmetic
pub mod Deciding
pub mod Judging
