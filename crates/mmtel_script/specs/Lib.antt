-- Definitions that public contracts cite: a user of the crate has to trust them.
-- Of the functions:
pub mod Script
pub mod Listing
-- Of the theorems only:
pub mod ReadBack
-- Definitions that only private functions cite.
pub mod EventDrafts
