-- Definitions that public contracts cite: a user of the crate has to trust them.
pub mod ReadResults
pub mod Elements
pub mod Keys
pub mod Moments
pub mod Printable
pub mod Rules
pub mod Sound
pub mod Texts
pub mod Walk

-- Definitions that only private functions cite: none.
