-- What the theorems cite here: what is sent has its own lines, without injection.
pub mod Messages
pub mod CallState
pub mod Inputs
pub mod Acks
pub mod Emits
pub mod CopiedLines
pub mod Traces
pub mod ReadMessages
