-- The laws behind the code.
pub mod Beyond
pub mod Ranked
