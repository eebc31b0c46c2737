-- What the clauses of public functions cite. Clauses of private functions cite parts of the same definitions, and nothing else.
pub mod Lines
pub mod Mixer
pub mod Offers
pub mod Outcome
pub mod Sdp
