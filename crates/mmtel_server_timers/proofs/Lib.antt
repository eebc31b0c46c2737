pub mod PendingTimers
mod Leading
mod Queueing
mod Ranking
mod Sooner
