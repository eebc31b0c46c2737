-- What public clauses cite, which a user of the crate has to believe.
-- The outcome of each call of a run, and the states on which it depends:
pub mod Outcome
pub mod Snapshots
pub mod PendingFinals
pub mod CallOutputs
-- Which requests ask for too short a session:
pub mod ShortSessions
-- Whom the server notifies of a mailbox, and with which content:
pub mod Mailboxes
-- The CDRs:
pub mod ChargingRecords
pub mod StepMoments
-- What is sent:
pub mod NoInjection
-- Outputs are only added to, and which of them are sent to an address:
pub mod Additions
pub mod SentBytes
-- Noninterference:
pub mod Roles
pub mod Mask
pub mod Examples
pub mod RenamedAccounts
pub mod EquivalentStates
pub mod SentInvites
pub mod Noninterference
