-- Definitions that public contracts cite: a user of the crate has to trust them.
pub mod Disks
pub mod Faults
pub mod Journal
pub mod JournalCalls
pub mod Payloads
pub mod Keepers
pub mod JournalContents
pub mod KeeperCalls
pub mod Opening
pub mod Memory
pub mod Files
pub mod Images
pub mod Reading
pub mod ReadLogs
-- Definitions that only private functions cite.
pub mod Gates
pub mod Logs
pub mod Fields
pub mod Migrating
