-- Definitions that public contracts cite: a user of the crate has to trust them.
pub mod Counts
pub mod FileStore
pub mod Written
pub mod Memory
pub mod Disk

-- Definitions that only private functions cite: none.
