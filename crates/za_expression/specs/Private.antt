pub mod Machine
pub mod Ordered
