mod Access
mod MailboxFrames
pub mod MailboxSteps
pub mod MailboxTransitions
mod CallDraws
mod ConferenceDraws
mod EmitFrames
mod ConferenceTermination
mod EnoughFirings
mod SubscriptionTermination
mod ChargingRows
mod Audio
mod InForce
mod EquivalentMessages
mod CallTableTermination
mod RecordsSeen
mod CallTermination
