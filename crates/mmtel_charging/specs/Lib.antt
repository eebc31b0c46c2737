-- What public clauses cite, which a user of the crate has to believe.
pub mod Meters
pub mod Rows
-- What private functions alone cite.
pub mod Writing
