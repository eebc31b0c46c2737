-- Definitions that public contracts cite: a user of the crate has to trust them.
pub mod Parties
pub mod Replies
pub mod Mailboxes
pub mod Handling
pub mod Agreement
pub mod Uploads

-- Definitions that only private functions cite: none.
