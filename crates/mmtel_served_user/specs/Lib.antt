-- What the clauses of public functions cite.
pub mod ServedUser
pub mod Targets

-- What private functions alone cite: nothing.
