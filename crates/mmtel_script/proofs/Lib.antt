pub mod HexTheorems
pub mod ReadBackTheorems
pub mod EventDraftTheorems
pub mod Pieces
