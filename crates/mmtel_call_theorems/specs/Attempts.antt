-- What the theorems cite here: what a call keeps of its attempt is what was sent and received.
pub mod Observed
pub mod Theorems
