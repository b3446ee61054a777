-- Laws that the functions' proofs cite.
pub mod Passing
pub mod Strides
pub mod Stages
pub mod InPlaces
pub mod Deciding
pub mod Laying
