-- The test of a record's fields, one after the other.
pub mod InRanges
