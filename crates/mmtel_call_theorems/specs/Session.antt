-- What the theorems cite here: which deadline of its session counts for a call, by what was sent and received, and that the call ends by it.
pub mod Observed
pub mod Theorems
