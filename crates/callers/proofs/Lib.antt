pub mod FewStates
pub mod BreakWords
pub mod WithoutLetter
