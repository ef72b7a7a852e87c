pub mod Limits
pub mod Plans
pub mod Private
