pub mod Places
pub mod PlainItems
pub mod Naming
pub mod Added
pub mod Marks
pub mod Telling
pub mod StepFaults
pub mod Opening
pub mod Saying
pub mod Faults
pub mod Whole
pub mod Keeping
pub mod Sound
mod Examples
pub mod Ending
