-- Definitions, then theorems.
pub mod Circuit
pub mod Buffers
pub mod Reasons
pub mod Promises
pub mod AnyRows
pub mod Ahead
pub mod Publics
pub mod Countable
pub mod Positions
pub mod Parts
pub mod Witness
pub mod Permutation
pub mod Selectors
pub mod PublicBound
pub mod RightlyLent
pub mod Worked
