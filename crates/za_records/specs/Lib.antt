pub mod Shelf
pub mod Private
