-- Definitions that public contracts cite: a user of the crate has to trust them.
pub mod Kinds
pub mod Messages
pub mod Events

-- Definitions that only private functions cite: none.
