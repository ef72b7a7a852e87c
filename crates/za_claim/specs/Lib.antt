pub mod Limits
pub mod Claims
pub mod Grammar
pub mod Audited
pub mod Printed
pub mod Laws
pub mod Private
