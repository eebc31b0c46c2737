-- Definitions that public contracts cite: a user of the crate has to trust them.
pub mod Theorems
pub mod Restriction
pub mod TrustDomain

-- Definitions that only private functions cite: none.
