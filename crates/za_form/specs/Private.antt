pub mod Trees
pub mod Stacks
pub mod Inside
pub mod Numbers
pub mod Sets
pub mod Searching
