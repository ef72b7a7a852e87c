pub mod Rows
pub mod Updates
pub mod Renaming
pub mod Laws
pub mod Private
