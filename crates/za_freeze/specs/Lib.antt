pub mod Frozen
pub mod Thawing
pub mod Laws
pub mod Private
