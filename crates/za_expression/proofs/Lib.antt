pub mod Meaning
pub mod Follow
pub mod Rests
pub mod Values
pub mod Part
pub mod FormValues
pub mod Sound
pub mod Complete
pub mod Placed
pub mod Whole
mod Examples
