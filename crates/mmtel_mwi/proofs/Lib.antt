mod Keys
mod MailboxMaps
mod Places
mod Operations
mod Tables
mod Reports
