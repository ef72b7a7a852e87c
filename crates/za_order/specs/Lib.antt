pub mod Views
pub mod Entries
pub mod Words
pub mod Labels
pub mod Locals
pub mod Laws
pub mod Past
