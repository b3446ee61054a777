-- Laws that the functions' proofs cite.
pub mod RowLaws
pub mod FactorLaws
pub mod ProductLaws
pub mod StepLaws
