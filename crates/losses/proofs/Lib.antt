-- Laws that the functions' proofs cite.
pub mod Links
pub mod Tagging
