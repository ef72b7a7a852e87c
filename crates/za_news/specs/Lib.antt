pub mod Readings
pub mod Grammar
pub mod NewsTexts
pub mod Texts
pub mod Private
