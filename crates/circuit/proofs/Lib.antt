-- Laws that the functions' proofs cite.
pub mod Passes
pub mod Deciding
pub mod TagLaws
pub mod PublicLaws
