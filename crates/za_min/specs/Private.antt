pub mod Rounds
pub mod Exploring
pub mod Spreading
