pub mod Shortlex
pub mod Minimal
pub mod Inside
pub mod Live
pub mod Laws
pub mod Private
