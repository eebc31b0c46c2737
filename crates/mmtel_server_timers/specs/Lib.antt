-- What public clauses cite: timers of calls, participants and subscriptions, the owner of a request, and the CDRs that wait.
pub mod PendingTimers
pub mod Ownership
pub mod Handover
-- What private functions alone cite: the timers as they are stored.
pub mod Queue
