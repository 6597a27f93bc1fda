-- What a line reader says.
pub mod LineReads
