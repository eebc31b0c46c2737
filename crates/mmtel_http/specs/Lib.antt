-- Definitions that public contracts cite: a user of the crate has to trust them.
pub mod Heads
pub mod Requests
pub mod Expectations
pub mod Views
pub mod Replies
pub mod Resources
pub mod Completeness

-- Definitions that only private functions cite: none.
