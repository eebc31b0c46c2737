pub mod Transitions
pub mod Sending
