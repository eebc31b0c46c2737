mod Arranged
mod Choice
mod Draining
mod Foremost
mod QueueInvariant
mod Keys
mod Removal
mod Sorting
mod QueuePositions
mod Mapped
mod Halving
mod Parted
pub mod Ordered
pub mod Indexed
pub mod Lookups
pub mod Unboxed
pub mod Advancing
