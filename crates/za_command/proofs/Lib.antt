mod Examples
pub mod Rows
pub mod Walk
pub mod Spellings
pub mod Reading
