pub mod Marks
pub mod Private
