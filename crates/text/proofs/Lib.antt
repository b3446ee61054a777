-- Laws that the functions' proofs cite.
pub mod Reading
pub mod Lines
