pub mod Holders
pub mod Records
pub mod Marks
pub mod Private
