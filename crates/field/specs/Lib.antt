-- Definitions, then theorems.
pub mod Rooms
pub mod Fields
pub mod Reasons
pub mod Inverses
pub mod Primes
pub mod Rooted
pub mod Domain
pub mod ReasonLaws
pub mod Lent
