-- What the theorems cite here: the INVITEs of a call, and its requests in flight, were sent, each once.
pub mod SentRequests
pub mod Theorems
