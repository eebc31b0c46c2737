-- Definitions that public contracts cite: a user of the crate has to trust them.
pub mod FirstVersion
pub mod Printing
pub mod Times

-- Definitions that only private functions cite: none.
