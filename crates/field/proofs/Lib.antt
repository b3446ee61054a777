-- Laws that the functions' proofs cite.
pub mod Laws
pub mod TablePoints
pub mod Domain
