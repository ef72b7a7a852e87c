pub mod Judged
pub mod Replies
pub mod Laws
pub mod Private
