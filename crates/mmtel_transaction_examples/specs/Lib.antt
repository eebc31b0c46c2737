-- What the theorems of this crate cite.
pub mod Sequences
pub mod DeadlineExamples
pub mod CallMessages
pub mod HeadExamples
pub mod PeerExamples
pub mod MatchingExamples
pub mod RetransmissionExamples
