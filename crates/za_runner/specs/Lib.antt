pub mod Workers
pub mod Private
