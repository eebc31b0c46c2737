-- What the clauses of public functions cite; `Values`, `Vias` and `Identifiers` end with words of private functions alone, and `FiveLines` has no others.
pub mod Lines
pub mod Names
pub mod Headers
pub mod Values
pub mod Message
pub mod Held
pub mod Addresses
pub mod Texts
pub mod Starts
pub mod Fields
pub mod FiveLines
pub mod Identifiers
pub mod Entries
pub mod Faults
pub mod Expansion
pub mod Vias
pub mod Phrases
pub mod Responses
pub mod Replies
pub mod Reads
pub mod Canonical
pub mod Datagram
pub mod Guarantees
-- What private functions alone cite: the lines of a head by the places where they begin.
pub mod Spans
