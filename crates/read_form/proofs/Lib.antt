-- The laws behind the code that reads a line: its letter, and its form.
pub mod Letter
pub mod Forms
