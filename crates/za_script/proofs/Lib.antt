pub mod Lists
pub mod Confluence
pub mod Answers
pub mod Totals
pub mod LetterLists
pub mod Firing
pub mod Standing
pub mod GoingOn
pub mod Alike
pub mod RestLists
mod Examples
