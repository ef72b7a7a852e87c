pub mod Limits
pub mod Drawn
pub mod Generated
pub mod Laws
pub mod Private
