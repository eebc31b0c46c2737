-- What public clauses cite.
-- Of the functions:
pub mod Outputs
pub mod SentInvites
pub mod ResponseMatching
pub mod Sending
pub mod AbandonedInvites
pub mod Marks
-- Of the theorems alone:
pub mod Heads

-- What private functions alone cite: nothing.
