-- What public clauses cite, which a user of the crate has to believe.
pub mod Representation
pub mod Charged
pub mod States
pub mod StepEffects
pub mod DriveEffects
pub mod Theorems
-- What private functions alone cite, but for `NumbersNeverFall` of `Follows`, which is one of the theorems about runs.
pub mod Follows
pub mod DialogOwners
pub mod Turns
