-- What public clauses cite: calls in a table, to which call a signal belongs, the table after each operation, and the queries on it.
pub mod Entries
pub mod Tables
pub mod Detaching
pub mod Queries
pub mod Operations
-- What private functions alone cite: the table as it is kept.
pub mod Invariant
pub mod Marks
pub mod Dispatches
