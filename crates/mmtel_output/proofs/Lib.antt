mod FirstVia
pub mod HeadTheorems
pub mod MaskedHeads
pub mod Marking
pub mod Ascending
