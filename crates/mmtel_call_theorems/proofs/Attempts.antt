pub mod Reading
pub mod Sending
pub mod AttemptsInProgress
pub mod ReceivedSignals
pub mod Traces
pub mod Targets
