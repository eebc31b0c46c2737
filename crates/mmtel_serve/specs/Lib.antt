-- What public clauses cite, which a user of the crate has to believe.
pub mod ServeEffects
-- What private functions alone cite.
pub mod Turns
