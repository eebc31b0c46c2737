-- Definitions that public contracts cite: a user of the crate has to trust them.
pub mod WriteEffects

-- Definitions that only private functions cite: none.
