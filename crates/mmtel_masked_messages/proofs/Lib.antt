pub mod HeadTheorems
pub mod ResponseTheorems
pub mod DialogTheorems
pub mod RequestTheorems
pub mod WorkedExampleTheorems
