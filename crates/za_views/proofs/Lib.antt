mod Examples
pub mod NewestSteps
pub mod LeastPlaces
pub mod Ranges
pub mod Knowledge
pub mod MarkedEntries
pub mod MarkedLabels
pub mod NextEvent
pub mod KeptMarks
pub mod PushedMarks
