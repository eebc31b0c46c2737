-- What public clauses cite.
pub mod Heads
pub mod Deadlines
pub mod Changes
pub mod Operations
pub mod Results
pub mod Runs
pub mod Represents
pub mod Tokens
pub mod Theorems
pub mod Matching
pub mod Equivalence
pub mod OnePeer
pub mod Retransmissions
pub mod Pracks
pub mod Firings
pub mod HeadsRead
pub mod Hashes
-- What private functions cite.
pub mod Table
pub mod Indexes
