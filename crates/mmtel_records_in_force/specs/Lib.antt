-- Definitions that public contracts cite: a user of the crate has to trust them.
pub mod Texts
pub mod Records

-- Definitions that only private functions cite: none.
