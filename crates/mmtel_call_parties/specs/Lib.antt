-- What public clauses cite, the theorems among them.
pub mod Theorems
pub mod Parties
pub mod Routing
-- What private functions cite.
pub mod Named
