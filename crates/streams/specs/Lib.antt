-- Definitions.
pub mod Got
