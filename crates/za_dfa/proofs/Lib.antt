pub mod Diamonds
pub mod RowLemmas
pub mod GridLemmas
pub mod Completing
pub mod EnteredLemmas
pub mod TableLemmas
pub mod DiamondLemmas
pub mod Examples
