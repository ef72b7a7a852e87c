pub mod Tables
pub mod Answers
pub mod Ends
pub mod Private
