pub mod Each
pub mod Draws
pub mod Letters
pub mod Whole
pub mod Tables
pub mod Fitting
pub mod Accepted
pub mod Totals
pub mod Firing
pub mod Jobs
mod Examples
