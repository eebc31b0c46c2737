-- What the clauses of public functions cite.
pub mod Intervals
pub mod SessionExpires

-- What private functions alone cite: nothing.
