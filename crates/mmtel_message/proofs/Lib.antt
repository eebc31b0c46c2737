mod AddressTheorems
mod TransactionNameTheorems
mod BodyTheorems
pub mod CanonicalTheorems
mod CommaTheorems
mod EditTheorems
mod EntryTheorems
pub mod ExpansionTheorems
mod FieldTheorems
mod FiveTheorems
mod FoldTheorems
mod HeaderTheorems
mod HeldTheorems
mod IdentifierTheorems
mod LineTheorems
mod NameTheorems
mod PartTheorems
mod SpanTheorems
pub mod GuaranteeTheorems
mod ReadTheorems
pub mod ResponseTheorems
mod RoundTrip
mod SpellingTheorems
mod StartTheorems
pub mod TagTheorems
mod ValueTheorems
pub mod ViaTheorems
pub mod WalkTheorems
