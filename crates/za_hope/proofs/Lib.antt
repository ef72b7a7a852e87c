pub mod Marking
pub mod Hoping
