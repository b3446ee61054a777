-- The numbers of docs/READER.md.
pub mod ByHand
