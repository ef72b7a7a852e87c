pub mod Knowledge
pub mod Circles
pub mod Inside
pub mod Laws
pub mod Private
