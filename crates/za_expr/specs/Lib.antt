pub mod Expressions
pub mod Documents
pub mod Built
pub mod Laws
pub mod Private
