mod Radix
mod Lookups
mod Kept
mod SetNumbers
mod Agreement
mod SharedEntries
mod Composed
mod Transition
mod Finite
pub mod LocalStates
pub mod Theorem
pub mod Exactly
mod Examples
pub mod Program
mod Seen
pub mod Moves
mod Unseen
mod Reached
pub mod Closed
pub mod Regular
