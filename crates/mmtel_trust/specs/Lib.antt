-- What public clauses cite, the theorems among them.
pub mod Accounts
pub mod Asserted
pub mod ParsedMessage
pub mod Faults
pub mod Kinds
pub mod PrivateFields
pub mod MaskedMessages
pub mod Members
pub mod HeaderTable
pub mod Peers
pub mod Privacy
-- What private functions cite.
pub mod FoundWords
pub mod Hashes
pub mod Indexes
pub mod HashIndex
pub mod Schemes
pub mod WrittenWords
