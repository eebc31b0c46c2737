pub mod HeadTheorems
pub mod LineTheorems
pub mod MethodTheorems
pub mod PathTheorems
pub mod RequestTheorems
pub mod Routing
pub mod Completeness
