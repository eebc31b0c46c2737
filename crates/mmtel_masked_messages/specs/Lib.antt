-- What the theorems, which are public, state.
pub mod Heads
pub mod Responses
pub mod Dialogs
pub mod Requests
pub mod WorkedExample
