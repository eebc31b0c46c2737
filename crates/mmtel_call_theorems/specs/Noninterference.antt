-- What the theorems cite here: noninterference, that is, what nobody may learn from a call.
pub mod Roles
pub mod PublicCall
pub mod Observations
pub mod Premises
pub mod PublicParts
pub mod Transitions
pub mod StepTable
pub mod EquivalentCalls
pub mod Opening
pub mod Traces
pub mod RenamedAccounts
pub mod Configurations
pub mod Detaching
pub mod Invariant
