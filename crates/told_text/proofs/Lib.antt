-- The laws of what a person is told.
pub mod Worded
pub mod RowExcess
pub mod Fields
pub mod Short
