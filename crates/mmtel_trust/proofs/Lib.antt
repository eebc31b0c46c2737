pub mod AccountTheorems
pub mod PeerTheorems
pub mod Pairs
pub mod WordTheorems
pub mod Absorbed
pub mod ByName
mod FoundWordTheorems
pub mod HashTheorems
pub mod ParsedTheorems
pub mod Indexing
pub mod IndexKeeping
mod LineWalks
pub mod Lookups
pub mod Masked
pub mod MaskTheorems
pub mod PrefixTheorems
pub mod PrefixWalk
mod SchemeTheorems
pub mod TableTheorems
mod WorkedExamples
