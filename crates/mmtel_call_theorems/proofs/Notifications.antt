pub mod AddedNotifications
pub mod OwnNotifications
pub mod Diversions
pub mod ReceivedSignals
pub mod Established
pub mod AfterOffered
pub mod NotificationTheorems
