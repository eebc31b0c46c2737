pub mod CallAfter
