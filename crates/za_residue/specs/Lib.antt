pub mod Functions
pub mod Residues
pub mod Masks
pub mod Inside
pub mod Laws
pub mod Private
