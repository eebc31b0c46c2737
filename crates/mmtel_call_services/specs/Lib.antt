-- What public clauses cite: the input of a decision, what is known of a call, and what is decided of it.
pub mod Busy
pub mod Diversions
pub mod CallConfig
pub mod Decisions
pub mod Opening
pub mod CopiedHeaders
pub mod Requests
pub mod Reliable
pub mod ChargingRecords

-- What private functions alone cite: nothing.
