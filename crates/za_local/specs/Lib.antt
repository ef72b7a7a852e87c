pub mod Locals
pub mod Benches
pub mod Inside
pub mod Laws
pub mod Same
pub mod Private
