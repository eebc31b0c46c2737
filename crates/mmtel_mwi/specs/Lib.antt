-- What public clauses cite: a user of the crate has to trust these definitions.
pub mod Counting
pub mod Summaries
pub mod Notifies
pub mod Boxes
pub mod Operations
pub mod Subscribing

-- What private functions alone cite: nothing.
