-- Definitions that public contracts cite: a user of the crate has to trust them.
pub mod Abroad
pub mod IdentityParts
pub mod Facts
pub mod Conditions
pub mod Identities
pub mod Rules

-- Definitions that only private functions cite: none.
