pub mod Events
pub mod Newest
pub mod Taken
pub mod Kept
