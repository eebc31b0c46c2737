pub mod CauseList
