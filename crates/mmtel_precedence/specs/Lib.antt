-- definitions that public contracts cite: the decisions, the outcome of a whole call, and the theorems
pub mod Views
pub mod Services
pub mod Verdicts
pub mod Calls
pub mod Attempts
pub mod Targets
pub mod Opening
pub mod Outcome
pub mod Moves
pub mod NextSteps
pub mod Extension
pub mod Theorems

-- Definitions that only private functions cite: none.
