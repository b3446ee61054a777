-- Laws that the functions' proofs cite.
pub mod Dividing
pub mod SumLaws
pub mod StartLaws
