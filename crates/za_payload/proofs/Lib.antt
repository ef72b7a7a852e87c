pub mod Agreeing
pub mod Handing
mod Examples
