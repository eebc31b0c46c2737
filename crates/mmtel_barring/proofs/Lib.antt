pub mod BarringTheorems
mod WorkedExamples
