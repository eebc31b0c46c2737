-- What public clauses cite: the configuration as conferences need it, the participants of a conference and the effects of a step, how a conference names itself, what remains of
-- a target, how a party is invited, the requests of a participant, and the server's INVITE to it.
pub mod ConferenceConfig
pub mod Texts
pub mod Targets
pub mod Participants
pub mod Inviting
pub mod DialogRequests
pub mod Invites
