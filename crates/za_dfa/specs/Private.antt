pub mod Diamonds
pub mod Views
