pub mod ClosedLemmas
pub mod BreakLemmas
pub mod CloseSteps
pub mod Decided
