-- Laws that the functions' proofs cite.
pub mod RowLaws
pub mod Deciding
