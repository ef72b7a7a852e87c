pub mod Texts
pub mod LocalStates
pub mod Private
pub mod Audits
