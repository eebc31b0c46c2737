pub mod IdentityPartTheorems
pub mod LeastIndex
pub mod RuleTheorems
