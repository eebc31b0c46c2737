-- What public clauses cite, which a user of the crate has to believe: what the code returns, as the values of the definitions of a run.
pub mod ParsedDatagrams
pub mod Dispositions
pub mod Dialogs
-- What private functions alone cite.
pub mod Targets
pub mod Accounts
