-- What public clauses cite, which a user of the crate has to believe.
-- What is claimed of a run:
pub mod TopTheorem
-- Its inputs, the operations in it, and what each operation adds:
pub mod Events
pub mod RunState
pub mod Subscriptions
pub mod Transitions
-- Which timer comes first, and to which call or conference a message belongs:
pub mod Deadlines
pub mod Calls
pub mod Ownership
pub mod Access
-- The records in force, and the registrations:
pub mod Records
pub mod InForce
-- What is done with a request, and which response it gets:
pub mod Refusals
pub mod Audio
pub mod OwnResponses
-- The run:
pub mod Run
pub mod ShortRuns
pub mod View
-- The CDRs:
pub mod ChargingRows
-- A message without its private places, and what does not depend on them:
pub mod Mask
pub mod Equivalence

-- What private functions alone cite: nothing.
