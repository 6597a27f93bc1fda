-- The laws behind the code that looks for slips.
pub mod Bytes
