pub mod Numbers
pub mod Updates
mod Examples
pub mod Places
pub mod RowsOf
pub mod Blocks
pub mod Inputs
pub mod SourceLists
pub mod LevelRows
pub mod Sizes
pub mod Advanced
pub mod Renamed
pub mod Columns
