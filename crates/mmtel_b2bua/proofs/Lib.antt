mod DetachedLegs
mod Counting
mod Finding
mod Keeping
mod MarkWrites
mod OpenedCalls
mod Dispatches
