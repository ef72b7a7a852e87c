pub mod NamesInside
