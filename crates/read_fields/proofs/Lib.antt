-- The laws behind the code that reads a line: its first bytes, the number of a field, and all fields.
pub mod Digits
pub mod FieldByField
