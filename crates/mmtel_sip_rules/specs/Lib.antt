-- What the clauses of public functions cite.
pub mod Invites
pub mod Requests
pub mod Statuses

-- What private functions alone cite: nothing.
