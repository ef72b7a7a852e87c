pub mod Limits
pub mod Plain
pub mod Forms
pub mod Grammar
pub mod Values
pub mod Following
pub mod Laws
pub mod Private
