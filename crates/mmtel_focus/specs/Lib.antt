-- What public clauses cite: the configuration as conferences need it, conferences and participants as they are kept, their texts, what a REFER asks for, what a participant
-- receives and the step that follows, the conferences after each operation, and the queries on them.
pub mod ConferenceConfig
pub mod Conferences
pub mod Texts
pub mod Referrals
pub mod Participants
pub mod Joining
pub mod Requests
pub mod Responses
pub mod ParticipantSignals
pub mod Table
pub mod Queries
pub mod Operations
-- What private functions alone cite.
pub mod Private
pub mod Borrowed
pub mod Marks
