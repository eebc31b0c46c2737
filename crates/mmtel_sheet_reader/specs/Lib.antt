-- Definitions that public contracts cite: a user of the crate has to trust them.
pub mod Actions
pub mod Uploads
-- Definitions that only private functions cite.
pub mod ReadOrNone
