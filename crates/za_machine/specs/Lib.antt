pub mod Machine
pub mod Hands
pub mod Answer
pub mod Laws
pub mod Private
