pub mod Asynchronous
pub mod Languages
pub mod Codes
pub mod Machine
pub mod Laws
