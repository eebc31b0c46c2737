-- What public clauses cite: a call and the input of its steps, how it opens, and its step table.
pub mod AttemptLeg
pub mod Calls
pub mod Sending
pub mod Closing
pub mod Awaiting
pub mod RelayedTransactions
pub mod AttemptStarts
pub mod Diverting
pub mod Opening
pub mod Requests
pub mod Reliable
pub mod Ringing
pub mod Answered
pub mod Updates
pub mod Reinvites
pub mod Expiring
pub mod Stages
pub mod OtherRequests
pub mod Dismissal
pub mod Table
pub mod Settled
pub mod Detaching

-- What private functions alone cite: nothing.
