-- What the theorems cite here: the notifications of diversions that the caller gets.
pub mod DueNotifications
pub mod Theorems
