-- Definitions, then theorems.
pub mod Opening
pub mod Reasons
pub mod Promises
pub mod Buffers
pub mod RightlyLent
pub mod Numbered
pub mod Mixing
pub mod Openings
pub mod Answers
pub mod Worked
