pub mod Inside
pub mod Weaving
