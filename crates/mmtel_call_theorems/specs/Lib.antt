-- What the theorems cite: the result of a call, its invariants, and who is charged;
pub mod CallTrace
pub mod Endings
pub mod Outcomes
pub mod Charging
pub mod Labels
pub mod Theorems
pub mod Continuation
-- the notifications of its diversions that its caller gets; that what it keeps of its attempt is what was sent and received;
pub mod Notifications
pub mod Attempts
pub mod Session
-- that what it sends has its own lines and was sent once; and noninterference: what nobody may learn from it.
pub mod NoInjection
pub mod Branches
pub mod Replies
pub mod Dismissal
pub mod Noninterference
