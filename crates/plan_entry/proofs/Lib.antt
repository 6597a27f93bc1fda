-- The laws of an entry that a list lacks.
pub mod Outside
