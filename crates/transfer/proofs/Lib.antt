-- Laws that the functions' proofs cite.
pub mod Known
pub mod AsBefore
pub mod Reasons
pub mod Texts
pub mod ThereAndBack
pub mod Theorem
