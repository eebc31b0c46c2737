pub mod BoundTheorems
pub mod DraftTheorems
pub mod LineTheorems
