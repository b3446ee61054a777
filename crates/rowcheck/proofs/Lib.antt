-- Laws that the functions' proofs cite.
pub mod Turns
pub mod Decided
