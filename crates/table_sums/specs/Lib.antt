-- What a search for a place answers.
pub mod Places
