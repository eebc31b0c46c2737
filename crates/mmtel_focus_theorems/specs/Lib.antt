-- What the theorems cite: who is charged, what is clean, and what cannot be learned.
pub mod Charging
pub mod Participants
pub mod NoInjection
pub mod Replies
pub mod PublicParts
pub mod Inputs
pub mod Configurations
pub mod Noninterference
pub mod Queries
