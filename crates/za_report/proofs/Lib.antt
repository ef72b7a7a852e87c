pub mod BoundLemmas
pub mod Entries
