pub mod Transitions
pub mod Keeping
pub mod Expiring
