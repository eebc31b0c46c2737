mod OtherAccounts
mod Puts
