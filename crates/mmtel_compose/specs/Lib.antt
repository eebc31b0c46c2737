-- What public clauses cite.
-- Of the functions:
pub mod ReceivedMessages
pub mod Responses
pub mod Requests
pub mod Attempts
-- Of the theorems alone:
pub mod InviteCopies

-- What private functions alone cite: nothing.
