-- Laws that the functions' proofs cite.
pub mod ScanLaws
pub mod Agreeing
pub mod Decided
