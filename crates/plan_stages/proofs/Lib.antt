-- The laws behind the code.
pub mod Parts
