pub mod States
pub mod Ends
pub mod Moves
mod Examples
