pub mod VerdictLemmas
pub mod Counting
pub mod Running
