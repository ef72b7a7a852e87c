pub mod Order
pub mod RoundLemmas
pub mod Split
pub mod Found
pub mod Merge
pub mod Renumber
pub mod Canonical
pub mod RoundSteps
pub mod FoundSteps
pub mod TableSteps
pub mod ApartSteps
pub mod Minimised
pub mod Existence
pub mod Spreading
mod Examples
