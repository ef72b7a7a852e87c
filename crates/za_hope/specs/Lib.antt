pub mod Hopes
pub mod Jobs
pub mod Laws
