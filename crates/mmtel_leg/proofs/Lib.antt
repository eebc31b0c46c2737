pub mod OperationTheorems
pub mod LineTheorems
pub mod ReceivedTheorems
pub mod ReadTheorems
pub mod OrderTheorems
pub mod TagTheorems
pub mod FiveTheorems
pub mod ResponseTheorems
