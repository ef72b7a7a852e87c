pub mod EventLetters
pub mod Saying
pub mod ReadBack
