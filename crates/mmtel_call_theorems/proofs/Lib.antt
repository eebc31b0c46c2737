pub mod Each
mod Parts
pub mod DiversionBound
pub mod CallInputs
pub mod OutcomeAgreement
pub mod Targets
pub mod UnchangedCalls
pub mod AttemptOutcomes
pub mod Continuation
pub mod OutcomesOfSteps
pub mod OutcomesOfTraces
pub mod DiversionBoundSteps
pub mod OutcomeTheorems
pub mod Labels
mod RelayedOfOthers
mod AfterOffered
mod AnswerMoments
mod ContinuationTheorem
mod Notifications
mod Attempts
mod Session
pub mod NoInjection
pub mod Branches
pub mod Replies
mod Dismissal
pub mod Noninterference
