-- Definitions, then theorems.
pub mod Transform
pub mod Passes
pub mod Points
pub mod Buffers
pub mod Interpolation
pub mod Parts
