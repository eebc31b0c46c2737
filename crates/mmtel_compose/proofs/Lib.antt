pub mod InviteCopyTheorems
pub mod ResponseTheorems
pub mod HiddenCallers
