-- What public clauses cite, which a user of the crate has to believe.
pub mod Lines
pub mod Directory
pub mod Configuration
-- What private functions alone cite.
pub mod Drafts
