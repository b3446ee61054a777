-- Laws that the functions' proofs cite.
pub mod SliceLaws
pub mod ProductLaws
pub mod SplitLaws
pub mod Sizes
