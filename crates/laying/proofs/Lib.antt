-- Laws that the functions' proofs cite.
pub mod WireLaws
pub mod ZLaws
