mod OtherAccounts
mod Entries
mod Tables
