pub mod Fault
pub mod Read
pub mod Write
pub mod Ends
pub mod Memory
pub mod StdEnds
