pub mod Index
pub mod Begun
pub mod Whole
pub mod NextRow
