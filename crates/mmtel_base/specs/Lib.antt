-- What the clauses of public functions cite; clauses of private functions cite the same words. `Stops`, `IsOneOrMore`, `Writes` and `IsFree` beside them are for the
-- definitions of the crates above.
pub mod Classes
pub mod Numbers
pub mod Scanning
-- What no clause of this crate cites: a word that the definitions of the crates above share.
pub mod Chain
-- What private functions alone cite: where a text stores its bytes.
pub mod Storage
