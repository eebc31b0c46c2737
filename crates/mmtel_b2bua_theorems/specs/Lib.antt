-- What the theorems cite.
-- The result of each call of a table:
pub mod TracesWithTransfers
pub mod Outcomes
pub mod Observed
pub mod TracesOfTables
pub mod Theorems
pub mod Acks
pub mod NoInjection
pub mod Legs
pub mod Replies
-- What nobody may learn from a table (noninterference):
pub mod Signals
pub mod EquivalentTables
pub mod Noninterference
pub mod Queries
