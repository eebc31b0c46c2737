pub mod AnyPhase
mod DueDiversions
