pub mod AnswerTheorems
pub mod Audio
pub mod Decimals
pub mod Parts
pub mod Plain
pub mod Reading
pub mod Soundness
pub mod WrittenLines
