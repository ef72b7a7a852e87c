pub mod LineLemmas
pub mod PrintedLines
pub mod Decimals
pub mod ItemLemmas
pub mod ProcessWords
pub mod Runs
pub mod Facts
pub mod ReadBack
