-- The result of each call of a table:
mod Tables
mod TableEffects
pub mod TraceSteps
mod Outcomes
mod Observed
mod Sessions
mod OwnSteps
mod Tabling
mod NoInjectionOfCalls
mod NoInjectionOfTables
mod Replies
mod Legs
mod ChargingRecords
mod Transactions
-- What nobody may learn from a table (noninterference):
mod Places
mod EquivalentEntries
mod Invariants
mod EquivalentSignals
mod ReleasedLegs
mod EquivalentTables
mod Queries
