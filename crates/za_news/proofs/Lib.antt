pub mod Adding
pub mod Following
pub mod Knowing
pub mod Lines
mod Examples
