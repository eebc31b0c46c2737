mod ConferenceTimers
pub mod Grows
mod Counts
mod Operations
mod Owners
mod Calls
mod Known
mod ConferenceOperations
mod Detaching
mod Participants
mod Dispositions
mod Subscriptions
mod Filing
mod Charging
mod Timers
mod Handover
mod Messages
mod Settling
mod Runs
mod Newcomers
pub mod Records
mod Reading
pub mod Received
pub mod Prefixes
pub mod Keeping
pub mod Effects
mod Drives
mod ReadOut
mod Replaced
