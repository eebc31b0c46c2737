-- What the clauses of public functions cite, which a user of the crate has to trust.
pub mod Racks
pub mod Acks
pub mod Traces

-- What private functions alone cite: nothing.
