pub mod BreakWords
pub mod Refusals
pub mod OneReply
pub mod SomeReply
pub mod Exactly
