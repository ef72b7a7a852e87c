pub mod Expressions
pub mod Automata
pub mod Private
