-- Definitions that public contracts cite: a user of the crate has to trust them.
pub mod KeeperCalls
pub mod KeeperOutcomes

-- Definitions that only private functions cite: none.
