-- What public clauses cite, which a user of the crate has to believe.
-- Of the functions:
pub mod Remotes
pub mod Dialogues
pub mod Requests
pub mod Legs
pub mod Names
pub mod Releases
-- Of the theorems alone:
pub mod Operations
pub mod Readings

-- What private functions alone cite: nothing.
