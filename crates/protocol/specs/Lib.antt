-- Definitions, then theorems.
pub mod Protocol
pub mod Worked
pub mod Further
pub mod Domains
pub mod Blinding
pub mod Layout
pub mod Numbered
pub mod Points
pub mod Conditions
pub mod GrandProduct
pub mod Quotients
pub mod Demand3
pub mod FiveValues
