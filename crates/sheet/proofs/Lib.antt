-- Laws that the functions' proofs cite.
pub mod BlockLaws
pub mod LineLaws
pub mod Decided
pub mod Reading
