-- What the proofs of the domain's methods cite.
pub mod Fits
