pub mod CutFaults
pub mod CutWords
pub mod FirstOther
pub mod TextLines
pub mod Refusals
pub mod RestOfJobs
pub mod ReadBack
pub mod Undone
